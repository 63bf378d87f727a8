use Rattle.std.proofs.Common.{◌<◌, ◌∙◌, ◌∷◌, refl, ap, length, arith}
use Rattle.std.specs.Prelude.{slice_get, slice_set}
use Rattle.flt_model.specs.Start.{count}
use Rattle.flt_model.specs.Debounce.{Reported, debounced, qualified}
use Rattle.flt_model.specs.declared.call.Op.TheVariants as ops
use Rattle.flt_dem.specs.Events.{EventsView}
use Rattle.flt_dem.proofs.ReadLemmas.{refill-set, refill-other}
use Rattle.flt_dem.proofs.DebounceLemmas.{was_debounced, debounced_more, kind_read, kept_of_config}
use Rattle.flt_dem.proofs.CallLemmas.{stands_one}
use Rattle.flt_dem.proofs.PartLemmas.{part_of_report, other_report}
use Rattle.flt_dem.proofs.events.Events.report.Goals as goal

pub invariant_of-self : goal.invariant_of-self
invariant_of-self g c =
    let event = c.args.event in
    let config = c.self.inside.durable.config in
    let debounces = c.self.inside.debounces.items in
    let lent = c.deref_mut.result.now in
    let configured = rw (← c.self.view_is) at c.requires.configured in
    let rules = c.rules-rules.result.now in
    let found = c.rules-rules.ensures.found in
    kept_of_config config debounces lent event rules found c.deref_mut.ensures.value configured c.self.invariant c.take.new.self.config c.report-qualified.new.state c.take.ensures.config
    (c.report-qualified.ensures.kind (kind_read config debounces lent event rules found c.deref_mut.ensures.value configured c.self.invariant))

pub returns-clause-stands : goal.returns-clause-stands
returns-clause-stands g c = λ life past counts signals_are s.
    let inside = rw (← c.self.view_is) at s in
    let report = c.args.report in
    let event = c.args.event in
    let config = c.self.inside.durable.config in
    let debounces = c.self.inside.debounces.items in
    let lent = c.deref_mut.result.now in
    let new = c.report-qualified.new.state in
    let configured = rw (← c.self.view_is) at c.requires.configured in
    let rules = c.rules-rules.result.now in
    let known = inside.durable_stands.config in
    let within : event < count life = omega (arith, configured, ap (λ k. length k.events.items) known) in
    let found = c.rules-rules.ensures.of_life life known in
    let before : EventsView = record { durable = c.self.inside.durable; debounces = debounces } in
    let now : EventsView = record { durable = c.take.new.self; debounces = slice_set debounces event new } in
    rw (refill-set debounces lent event new c.deref_mut.ensures.value)
    (stands_one life past (ops.Report event report) event before now within (λ marks. refl) (λ other ne. other_report life past event other report ne)
    (λ items marks own t.
    let was = was_debounced life items event rules debounces lent c.deref_mut.ensures.value found within t.debounces_stand in
    part_of_report life past event items marks now own report c.args.signals.now.values c.report-qualified.result counts signals_are
    (c.report-qualified.ensures.qualified (items event) was ∙ ap (λ k. qualified k.debounce (items event) (Reported report)) found)
    (debounced_more life event (Reported report) items debounces new within
    (c.report-qualified.ensures.debounced (items event) was ∙ ap (λ k. debounced k.debounce (Reported report ∷ items event)) found) t.debounces_stand)
    (c.take.ensures.stands life marks t.durable_stands))
    inside)

pub returns-clause-debouncing : goal.returns-clause-debouncing
returns-clause-debouncing g c = λ other ne.
    refill-other c.self.inside.debounces.items c.deref_mut.result.now c.args.event other c.report-qualified.new.state c.deref_mut.ensures.value ne ∙ ap (λ e. slice_get e.debounces other) c.self.view_is
