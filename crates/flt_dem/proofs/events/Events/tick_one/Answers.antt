use Rattle.std.proofs.Common.{◌<◌, ◌∙◌, ◌∷◌, ap, length, arith}
use Rattle.std.specs.Prelude.{slice_set}
use Rattle.flt_model.specs.Start.{count}
use Rattle.flt_model.specs.Debounce.{Ticked, debounced, qualified}
use Rattle.flt_dem.specs.Events.{EventsView}
use Rattle.flt_dem.proofs.ReadLemmas.{refill-set}
use Rattle.flt_dem.proofs.DebounceLemmas.{was_debounced, debounced_more, kind_read, kept_of_config}
use Rattle.flt_dem.proofs.PartLemmas.{ticks_count, part_of_ticks, part_of_no_ticks}
use Rattle.flt_dem.proofs.events.Events.tick_one.Goals as goal

pub invariant_of-self : goal.invariant_of-self
invariant_of-self g c =
    let event = c.args.event in
    let config = c.self.inside.durable.config in
    let debounces = c.self.inside.debounces.items in
    let lent = c.deref_mut.result.now in
    let configured = rw (← c.self.view_is) at c.requires.configured in
    let rules = c.rules-rules.result.now in
    let found = c.rules-rules.ensures.found in
    kept_of_config config debounces lent event rules found c.deref_mut.ensures.value configured c.self.invariant c.take.new.self.config c.tick-qualified.new.state c.take.ensures.config
    (c.tick-qualified.ensures.kind (kind_read config debounces lent event rules found c.deref_mut.ensures.value configured c.self.invariant))

pub returns-then-meet-clause-part : goal.returns-then-meet-clause-part
returns-then-meet-clause-part g c = λ life past on signals_are conditions_are items marks own s.
    let inside = rw (← c.self.view_is) at s in
    let ticks = c.args.ticks in
    let event = c.args.event in
    let config = c.self.inside.durable.config in
    let debounces = c.self.inside.debounces.items in
    let lent = c.deref_mut.result.now in
    let new = c.tick-qualified.new.state in
    let configured = rw (← c.self.view_is) at c.requires.configured in
    let rules = c.rules-rules.result.now in
    let known = inside.durable_stands.config in
    let within : event < count life = omega (arith, configured, ap (λ k. length k.events.items) known) in
    let found = c.rules-rules.ensures.of_life life known in
    let counts = ticks_count life past event rules c.args.conditions.now c.meet.result on found conditions_are c.meet.ensures ∙ c.if-meet.true in
    let now : EventsView = record { durable = c.take.new.self; debounces = slice_set debounces event new } in
    let was = was_debounced life items event rules debounces lent c.deref_mut.ensures.value found within inside.debounces_stand in
    rw (refill-set debounces lent event new c.deref_mut.ensures.value)
    (part_of_ticks life past event items marks now own ticks c.args.signals.now.values c.tick-qualified.result counts signals_are
    (c.tick-qualified.ensures.qualified (items event) was ∙ ap (λ k. qualified k.debounce (items event) (Ticked ticks)) found)
    (debounced_more life event (Ticked ticks) items debounces new within
    (c.tick-qualified.ensures.debounced (items event) was ∙ ap (λ k. debounced k.debounce (Ticked ticks ∷ items event)) found) inside.debounces_stand)
    (c.take.ensures.stands life marks inside.durable_stands))

pub returns-else-meet-clause-part : goal.returns-else-meet-clause-part
returns-else-meet-clause-part g c = λ life past on signals_are conditions_are items marks own s.
    let inside = rw (← c.self.view_is) at s in
    let event = c.args.event in
    let rules = c.rules-rules.result.now in
    let found = c.rules-rules.ensures.of_life life inside.durable_stands.config in
    let counts = ticks_count life past event rules c.args.conditions.now c.meet.result on found conditions_are c.meet.ensures ∙ c.if-meet.false in
    part_of_no_ticks life past event items marks c.args.self.now own c.args.ticks counts s
