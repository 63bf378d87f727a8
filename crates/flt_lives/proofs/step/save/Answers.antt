use Rattle.std.proofs.Common.{◌∷◌, ◌∙◌, Err, ap, refl, subst}
use Rattle.flt_config.specs.declared.config.Config.{Config}
use Rattle.flt_model.specs.declared.call.Op.TheVariants as ops
use Rattle.flt_dcm.specs.Whole.{unit_seen}
use Rattle.flt_life_model.specs.Chain.{start_from}
use Rattle.flt_life_model.specs.Journal.{calls_of, entry}
use Rattle.flt_life_model.proofs.Causing.{caused_saved, caused_failed}
use Rattle.flt_life_model.proofs.Keeping.{kept_saved, kept_failed}
use Rattle.flt_lives.specs.Living.{IsUnderWay}
use Rattle.flt_lives.proofs.step.save.Goals as goal

pub returns-in-Ok-clause-ready : goal.returns-in-Ok-clause-ready
returns-in-Ok-clause-ready g c =
    let ready = c.requires.ready in
    record {
      same = c.call.ensures.config ∙ ready.same;
      under_way = subst (λ (k : Config). IsUnderWay k (unit_seen c.call.new.unit)) ready.same c.call.ensures.under_way;
      alive = c.save.ensures.alive;
    }

pub returns-in-Err-clause-ready : goal.returns-in-Err-clause-ready
returns-in-Err-clause-ready g c =
    let ready = c.requires.ready in
    record {
      same = ready.same;
      under_way = ready.under_way;
      alive = c.save.ensures.alive;
    }

pub returns-in-Ok-clause-made : goal.returns-in-Ok-clause-made
returns-in-Ok-clause-made g c = λ response.
    let config = c.args.config.now in
    record {
      answered = λ start journal stands. tt;
      living = λ first journal told living.
          (let start = start_from config first.state in
          let saved = (c.in-Ok.ensures.answers living.held living.spare living.running).saved in
          let taken = c.take_snapshot.ensures.taken start (calls_of journal) living.stands in
          record {
            stands = c.call.ensures.stands _ _ (c.take_snapshot.ensures.stands start (calls_of journal) living.stands);
            held = _;
            spare = _;
            running = saved.running;
            kept = rw taken (kept_saved config first journal told living.held living.spare living.kept saved.chosen saved.is 0 c.in-Ok.generation (entry 0 ops.Snapshot ∷ journal) saved.next refl);
          });
      caused = λ begun told caused.
          caused_saved config begun told c.args.store.now c.save.new.self caused c.take_snapshot.new.state c.in-Ok.generation c.save.ensures.driver.calls
          (c.in-Ok.ensures.answers caused.held_now caused.spare_now caused.running).saved;
    }

pub returns-in-Err-clause-made : goal.returns-in-Err-clause-made
returns-in-Err-clause-made g c = λ response.
    let config = c.args.config.now in
    record {
      answered = λ start journal stands. tt;
      living = λ first journal told living.
          (let start = start_from config first.state in
          let left = (c.in-Err.ensures.answers living.held living.spare living.running).failed in
          let taken = c.take_snapshot.ensures.taken start (calls_of journal) living.stands in
          let held_is = rw taken at left.held_is in
          let spare_is = rw taken at left.spare_is in
          record {
            stands = c.take_snapshot.ensures.stands start (calls_of journal) living.stands;
            held = left.now_held;
            spare = left.now_spare;
            running = left.running;
            kept = kept_failed config first journal told living.held living.spare living.kept left.chosen left.is 0 c.in-Err.fault left.now_held left.now_spare held_is spare_is;
          });
      caused = λ begun told caused.
          caused_failed config begun told c.args.store.now c.save.new.self caused c.take_snapshot.new.state c.in-Err.fault c.save.ensures.driver.calls
          (c.in-Err.ensures.answers caused.held_now caused.spare_now caused.running).failed
          (λ is. (c.in-Err.ensures.causes caused.held_now caused.spare_now caused.running).flash (ap Err is))
          (λ is. (c.in-Err.ensures.causes caused.held_now caused.spare_now caused.running).spent (ap Err is))
          (λ is. (let stuck = (c.in-Err.ensures.causes caused.held_now caused.spare_now caused.running).sequence (ap Err is) in g.met.D.Blocks.stuck_is_spent c.save.new.self.nvm.blocks stuck.0 stuck.1 stuck.3));
    }

pub returns-in-Ok-clause-applications : goal.returns-in-Ok-clause-applications
returns-in-Ok-clause-applications g c = c.save.ensures.driver.applications

pub returns-in-Err-clause-applications : goal.returns-in-Err-clause-applications
returns-in-Err-clause-applications g c = c.save.ensures.driver.applications

pub returns-in-Ok-clause-keeps_driver : goal.returns-in-Ok-clause-keeps_driver
returns-in-Ok-clause-keeps_driver g c = c.save.ensures.driver.calls

pub returns-in-Err-clause-keeps_driver : goal.returns-in-Err-clause-keeps_driver
returns-in-Err-clause-keeps_driver g c = c.save.ensures.driver.calls
