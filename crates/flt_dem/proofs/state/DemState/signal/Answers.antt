use Rattle.std.proofs.Common.{◌∙◌, refl, ap}
use Rattle.std.specs.Prelude.{slice_set}
use Rattle.flt_model.specs.declared.call.Op.TheVariants as ops
use Rattle.flt_dem.proofs.CallLemmas.{stands_none}
use Rattle.flt_dem.proofs.ManagerLemmas.{set_signals}
use Rattle.flt_dem.proofs.state.DemState.signal.Goals as goal

pub returns-clause-stands : goal.returns-clause-stands
returns-clause-stands c = λ life past s.
    let inside = rw (← c.self.view_is) at s in
    let index = c.args.index in
    let value = c.args.value in
    record {
      events = stands_none life past (ops.Signal index value) c.self.inside.events (λ marks. refl) (λ event within. refl) inside.events;
      started = inside.started;
      signals = c.set.ensures ∙ ap (λ xs. slice_set xs index value) inside.signals ∙ set_signals index value past;
      conditions = inside.conditions;
    }
