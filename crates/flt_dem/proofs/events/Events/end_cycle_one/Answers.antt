use Rattle.std.proofs.Common.{◌<◌, ◌∙◌, ◌∷◌, sym, ap, length, arith}
use Rattle.std.specs.Prelude.{slice_set}
use Rattle.flt_model.specs.Start.{count}
use Rattle.flt_model.specs.Debounce.{Ended, debounced}
use Rattle.flt_model.specs.Happening.{signals}
use Rattle.flt_dem.specs.Events.{EventsView}
use Rattle.flt_dem.proofs.ReadLemmas.{refill-set}
use Rattle.flt_dem.proofs.DebounceLemmas.{debounced_more, kept_of_config}
use Rattle.flt_dem.proofs.PartLemmas.{part_of_own_cycle, part_of_other_cycle}
use Rattle.flt_dem.proofs.events.Events.end_cycle_one.Goals as goal

pub invariant_of-self : goal.invariant_of-self
invariant_of-self c =
    let event = c.args.event in
    let config = c.self.inside.durable.config in
    let debounces = c.self.inside.debounces.items in
    let lent = c.deref_mut.result.now in
    let configured = rw (← c.self.view_is) at c.requires.configured in
    let rules = c.rules-rules.result.now in
    let found = c.rules-rules.ensures.found in
    kept_of_config config debounces lent event rules found c.deref_mut.ensures.value configured c.self.invariant c.end_cycle.new.self.config c.rest.result c.end_cycle.ensures.config
    c.rest.ensures.kind

pub returns-then-rules-cycle-clause-part : goal.returns-then-rules-cycle-clause-part
returns-then-rules-cycle-clause-part c = λ life past items marks own s.
    let inside = rw (← c.self.view_is) at s in
    let event = c.args.event in
    let config = c.self.inside.durable.config in
    let debounces = c.self.inside.debounces.items in
    let lent = c.deref_mut.result.now in
    let new = c.rest.result in
    let configured = rw (← c.self.view_is) at c.requires.configured in
    let known = inside.durable_stands.config in
    let within : event < count life = omega (arith, configured, ap (λ k. length k.events.items) known) in
    let found = c.rules-rules.ensures.of_life life known in
    let now : EventsView = record { durable = c.end_cycle.new.self; debounces = slice_set debounces event new } in
    rw (refill-set debounces lent event new c.deref_mut.ensures.value)
    (part_of_own_cycle life past event items marks now own c.args.cycle (ap (λ k. k.cycle) (sym found) ∙ c.if-rules-cycle.true)
    (debounced_more life event Ended items debounces new within
    (c.rest.ensures.ended (items event) ∙ ap (λ k. debounced k.debounce (Ended ∷ items event)) found) inside.debounces_stand)
    (c.end_cycle.ensures.stands (signals past) life marks inside.durable_stands))

pub returns-else-rules-cycle-clause-part : goal.returns-else-rules-cycle-clause-part
returns-else-rules-cycle-clause-part c = λ life past items marks own s.
    let inside = rw (← c.self.view_is) at s in
    let event = c.args.event in
    let found = c.rules-rules.ensures.of_life life inside.durable_stands.config in
    part_of_other_cycle life past event items marks c.args.self.now own c.args.cycle (λ same. c.if-rules-cycle.false (ap (λ k. k.cycle) found ∙ same)) s
