use Rattle.std.proofs.Common.{◌<◌, ◌∙◌, sym, ap, arith}
use Rattle.std.proofs.Math.ListN.{length-set}
use Rattle.std.specs.Prelude.{slice_get, slice_set}
use Rattle.flt_model.specs.Start.{count, base_of}
use Rattle.flt_model.specs.Mark.{marks_of}
use Rattle.flt_model.specs.Status.{ages, durable}
use Rattle.flt_status.specs.Standing.{with_cycle_end}
use Rattle.flt_dem.proofs.StateLemmas.{was_state, state_cycled}
use Rattle.flt_dem.proofs.ReadLemmas.{refill-set, refill-other, rules_read}
use Rattle.flt_dem.proofs.EndLemmas.{memory_cycled, memory_aged, notes_cycled}
use Rattle.flt_dem.proofs.KeptLemmas.{removed_of_config}
use Rattle.flt_dem.proofs.durable.DurablePart.end_cycle.Goals as goal

pub invariant_of-self : goal.invariant_of-self
invariant_of-self c =
    let event = c.args.event in
    let items = c.self.inside.states.items in
    rw (refill-set items c.deref_mut.result.now event c.cycle.new.state c.deref_mut.ensures.value)
    (removed_of_config c.self.inside.config items (slice_set items event c.cycle.new.state) event c.self.inside.memory c.remove.new.self
    (length-set items event c.cycle.new.state) c.remove.ensures.entries c.self.invariant)

pub returns-then-cycle-clause-stands : goal.returns-then-cycle-clause-stands
returns-then-cycle-clause-stands c = λ signals life marks s.
    let inside = rw (← c.self.view_is) at s in
    let event = c.args.event in
    let past = marks_of event marks in
    let items = c.self.inside.states.items in
    let lent = c.deref_mut.result.now in
    let configured = rw (← c.self.view_is) at c.requires in
    let within : event < count life = omega (arith, configured, c.self.invariant.one_each, inside.states_stand.one_each) in
    let rules = c.index-deref-event.result in
    let found = rules_read c.self.inside.config c.deref.result.now event rules c.index-deref-event.is (c.deref.ensures.0 ∙ ap (λ k. k.events.items) c.config.ensures.value) configured life inside.config in
    let was = was_state life event rules marks items lent c.deref_mut.ensures.value found within inside.states_stand in
    rw (refill-set items lent event c.cycle.new.state c.deref_mut.ensures.value) (record {
      config = inside.config;
      states_stand = state_cycled life event signals marks items c.cycle.new.state within
          (c.cycle.ensures.marked (base_of life event) past was ∙ ap (λ k. durable (base_of life event) k (with_cycle_end k (base_of life event) past)) found) inside.states_stand;
      memory_stands = memory_aged life event signals marks c.self.inside.memory c.remove.new.self
          (ap (λ k. ages (base_of life event) k past) (sym found) ∙ sym (c.cycle.ensures.aged (base_of life event) past was) ∙ c.if-cycle.true)
          c.remove.ensures.entries c.remove.ensures.overflow inside.memory_stands;
      notes = inside.notes ∙ sym (notes_cycled life event signals marks);
    })

pub returns-else-cycle-clause-stands : goal.returns-else-cycle-clause-stands
returns-else-cycle-clause-stands c = λ signals life marks s.
    let inside = rw (← c.self.view_is) at s in
    let event = c.args.event in
    let past = marks_of event marks in
    let items = c.self.inside.states.items in
    let lent = c.deref_mut.result.now in
    let configured = rw (← c.self.view_is) at c.requires in
    let within : event < count life = omega (arith, configured, c.self.invariant.one_each, inside.states_stand.one_each) in
    let rules = c.index-deref-event.result in
    let found = rules_read c.self.inside.config c.deref.result.now event rules c.index-deref-event.is (c.deref.ensures.0 ∙ ap (λ k. k.events.items) c.config.ensures.value) configured life inside.config in
    let was = was_state life event rules marks items lent c.deref_mut.ensures.value found within inside.states_stand in
    rw (refill-set items lent event c.cycle.new.state c.deref_mut.ensures.value) (record {
      config = inside.config;
      states_stand = state_cycled life event signals marks items c.cycle.new.state within
          (c.cycle.ensures.marked (base_of life event) past was ∙ ap (λ k. durable (base_of life event) k (with_cycle_end k (base_of life event) past)) found) inside.states_stand;
      memory_stands = memory_cycled life event signals marks c.self.inside.memory
          (ap (λ k. ages (base_of life event) k past) (sym found) ∙ sym (c.cycle.ensures.aged (base_of life event) past was) ∙ c.if-cycle.false) inside.memory_stands;
      notes = inside.notes ∙ sym (notes_cycled life event signals marks);
    })

pub returns-then-cycle-clause-others : goal.returns-then-cycle-clause-others
returns-then-cycle-clause-others c = λ other ne.
    refill-other c.self.inside.states.items c.deref_mut.result.now c.args.event other c.cycle.new.state c.deref_mut.ensures.value ne ∙ ap (λ f. slice_get f.states other) c.self.view_is

pub returns-else-cycle-clause-others : goal.returns-else-cycle-clause-others
returns-else-cycle-clause-others c = λ other ne.
    refill-other c.self.inside.states.items c.deref_mut.result.now c.args.event other c.cycle.new.state c.deref_mut.ensures.value ne ∙ ap (λ f. slice_get f.states other) c.self.view_is
