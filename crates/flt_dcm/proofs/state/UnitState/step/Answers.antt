use Rattle.std.proofs.Common.{◌∷◌, refl, rules, sym, subst}
use Rattle.flt_model.specs.declared.call.Op.TheVariants as ops
use Rattle.flt_dcm.specs.Unit.{Stands}
use Rattle.flt_dcm.proofs.UnitLemmas.{stands_snapshot, stands_saved}
use Rattle.flt_dcm.proofs.state.UnitState.step.Goals as goal

pub returns-in-Request-clause-applied : goal.returns-in-Request-clause-applied
returns-in-Request-clause-applied g c = record {
  config = c.request.ensures.config;
  base = c.request.ensures.base;
  stands = λ life past s.
      subst (λ call. Stands life (call ∷ past) c.request.new.self) (sym c.in-Request.is)
      (subst (λ tester. Stands life (ops.Request tester c.in-Request.bytes ∷ past) c.request.new.self) c.new-in-Request.ensures (c.request.ensures.stands life past s));
  answer = search rules;
  reading = search rules;
  ignored = search rules;
  negative = search rules;
}

pub returns-in-Snapshot-clause-applied : goal.returns-in-Snapshot-clause-applied
returns-in-Snapshot-clause-applied g c = record {
  config = refl;
  base = refl;
  stands = λ life past s. subst (λ call. Stands life (call ∷ past) c.args.self.now) (sym c.in-Snapshot.is) (stands_snapshot life past c.args.self.now s);
  answer = search rules;
  reading = λ reads. refl;
  ignored = λ ignored. refl;
  negative = search rules;
}

pub returns-in-Saved-clause-applied : goal.returns-in-Saved-clause-applied
returns-in-Saved-clause-applied g c = record {
  config = refl;
  base = refl;
  stands = λ life past s. subst (λ call. Stands life (call ∷ past) c.args.self.now) (sym c.in-Saved.is) (stands_saved life past c.in-Saved.generation c.args.self.now s);
  answer = search rules;
  reading = λ reads. refl;
  ignored = λ ignored. refl;
  negative = search rules;
}
