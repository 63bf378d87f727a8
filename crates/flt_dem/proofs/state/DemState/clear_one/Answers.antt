use Rattle.std.proofs.Common.{◌<◌, ◌∙◌, length, sym, ap, subst, arith}
use Rattle.std.specs.Prelude.{slice_get}
use Rattle.flt_config.specs.Validity.{IsValid}
use Rattle.flt_model.specs.Start.{count, event_of}
use Rattle.flt_model.specs.Happening.{cleared_dtc}
use Rattle.flt_model.specs.declared.call.Op.TheVariants as ops
use Rattle.flt_dem.proofs.CallLemmas.{stands_one}
use Rattle.flt_dem.proofs.ClearLemmas.{reaches_own, reaches_others, clears_one}
use Rattle.flt_dem.proofs.PartLemmas.{other_clear}
use Rattle.flt_dem.proofs.state.DemState.clear_one.Goals as goal

pub returns-clause-stands : goal.returns-clause-stands
returns-clause-stands c = λ life past tester bytes clears s.
    let event = c.args.event in
    let op = ops.Request tester bytes in
    let dtc = (event_of life event).dtc in
    let inside = rw (← c.self.view_is) at s in
    let config = inside.events.durable_stands.config in
    let configured = rw (← c.self.view_is) at c.requires in
    let within : event < count life = omega (arith, configured, ap (λ k. length k.events.items) config) in
    let valid = subst (λ k. IsValid k) (sym config) c.clear_one.ensures.valid in
    record {
      events = stands_one life past op event c.self.inside.events c.clear_one.new.self within
          (λ marks. clears_one life event (cleared_dtc op) marks valid within clears)
          (λ other ne. other_clear life past other tester dtc bytes clears (reaches_others life event other valid within ne))
          (c.clear_one.ensures.part life past tester dtc bytes clears (reaches_own life event)) inside.events;
      started = inside.started;
      signals = inside.signals;
      conditions = inside.conditions;
    }

pub returns-clause-others : goal.returns-clause-others
returns-clause-others c = λ other ne. record {
  debouncing = c.clear_one.ensures.debouncing other ne ∙ ap (λ m. slice_get m.debounces other) c.self.view_is;
  state = c.clear_one.ensures.states other ne ∙ ap (λ m. slice_get m.durable.states other) c.self.view_is;
}
