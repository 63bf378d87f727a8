use Rattle.std.proofs.Common.{◌<◌, ◌∙◌, ◌∷◌, ap, length, arith}
use Rattle.std.specs.Prelude.{slice_get, slice_set}
use Rattle.flt_model.specs.Start.{count}
use Rattle.flt_model.specs.Debounce.{Cleared, debounced}
use Rattle.flt_model.specs.Happening.{signals}
use Rattle.flt_dem.specs.DurablePart.{with_memory, without_entry}
use Rattle.flt_dem.specs.Events.{EventsView}
use Rattle.flt_dem.proofs.ReadLemmas.{refill-set, refill-other}
use Rattle.flt_dem.proofs.DebounceLemmas.{debounced_more, kept_of_config}
use Rattle.flt_dem.proofs.PartLemmas.{part_of_clear}
use Rattle.flt_dem.proofs.events.Events.forget.Goals as goal

pub invariant_of-self : goal.invariant_of-self
invariant_of-self c =
    let event = c.args.event in
    let config = c.self.inside.durable.config in
    let debounces = c.self.inside.debounces.items in
    let lent = c.deref_mut.result.now in
    let configured = rw (← c.self.view_is) at c.requires.configured in
    let rules = c.rules-rules.result.now in
    let found = c.rules-rules.ensures.found in
    kept_of_config config debounces lent event rules found c.deref_mut.ensures.value configured c.self.invariant c.forget.new.self.config c.rest.result c.forget.ensures.config
    c.rest.ensures.kind

pub returns-clause-part : goal.returns-clause-part
returns-clause-part c = λ held life past tester dtc bytes clears reached items marks own s.
    let inside = rw (← c.self.view_is) at s in
    let event = c.args.event in
    let config = c.self.inside.durable.config in
    let debounces = c.self.inside.debounces.items in
    let lent = c.deref_mut.result.now in
    let new = c.rest.result in
    let configured = rw (← c.self.view_is) at c.requires.configured in
    let known = inside.durable_stands.config in
    let within : event < count life = omega (arith, configured, ap (λ k. length k.events.items) known) in
    let found = c.rules-rules.ensures.of_life life known in
    let now : EventsView = record { durable = with_memory (without_entry event held) c.forget.new.self; debounces = slice_set debounces event new } in
    rw (refill-set debounces lent event new c.deref_mut.ensures.value)
    (part_of_clear life past event tester dtc bytes items marks now clears reached
    (debounced_more life event Cleared items debounces new within
    (c.rest.ensures.cleared (items event) ∙ ap (λ k. debounced k.debounce (Cleared ∷ items event)) found) inside.debounces_stand)
    (c.forget.ensures.stands held (signals past) life marks inside.durable_stands))

pub returns-clause-debouncing : goal.returns-clause-debouncing
returns-clause-debouncing c = λ other ne.
    refill-other c.self.inside.debounces.items c.deref_mut.result.now c.args.event other c.rest.result c.deref_mut.ensures.value ne ∙ ap (λ e. slice_get e.debounces other) c.self.view_is
