use Rattle.std.proofs.Common.{◌∙◌, refl, ap}
use Rattle.std.specs.Prelude.{slice_set}
use Rattle.flt_model.specs.declared.call.Op.TheVariants as ops
use Rattle.flt_dem.proofs.CallLemmas.{stands_none}
use Rattle.flt_dem.proofs.ConditionLemmas.{set_conditions}
use Rattle.flt_dem.proofs.state.DemState.enable.Goals as goal

pub returns-clause-stands : goal.returns-clause-stands
returns-clause-stands c = λ life past s.
    let inside = rw (← c.self.view_is) at s in
    let condition = c.args.condition in
    let fulfilled = c.args.fulfilled in
    record {
      events = stands_none life past (ops.Enable condition fulfilled) c.self.inside.events (λ marks. refl) (λ event within. refl) inside.events;
      started = inside.started;
      signals = inside.signals;
      conditions = c.set.ensures ∙ ap (λ xs. slice_set xs condition fulfilled) inside.conditions ∙ set_conditions condition fulfilled past;
    }
