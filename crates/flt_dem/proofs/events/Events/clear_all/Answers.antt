use Rattle.std.proofs.Common.{◌≡◌, ◌∙◌, ◌<◌, ◌≤◌, not, length, refl, sym, ap, subst, arith}
use Rattle.std.specs.List.{All}
use Rattle.std.proofs.lemmas.List.Elements.{All-filter}
use Rattle.flt_config.specs.declared.persist.EntryState.{EntryState}
use Rattle.flt_config.specs.Durable.{is_of_event}
use Rattle.flt_model.specs.Start.{count}
use Rattle.flt_model.specs.Happening.{all_dtcs}
use Rattle.flt_model.specs.declared.call.Op.TheVariants as ops
use Rattle.flt_dem.specs.DurablePart.{without_entry}
use Rattle.flt_dem.specs.Events.{EventsView, holding}
use Rattle.flt_dem.specs.Calls.{StandsAfter, StandsPartly}
use Rattle.flt_dem.proofs.CallLemmas.{partly_first, partly_next, partly_cleared}
use Rattle.flt_dem.proofs.ClearLemmas.{left_more, none_left}
use Rattle.flt_dem.proofs.events.Events.clear_all.Goals as goal

pub loop-event-init : goal.loop-event-init
loop-event-init c =
    let durable = c.self.inside.durable in
    let held = durable.memory in
    let first : EventsView = record { durable = c.remove_entries.new.self; debounces = c.self.inside.debounces.items } in
    let same : holding held first ≡ c.args.self.now =
    (λ i. holding held (record { durable = c.remove_entries.ensures i; debounces = c.self.inside.debounces.items })) ∙ c.self.view_is in
    record {
      config = ap (λ f. f.config) c.remove_entries.ensures ∙ ap (λ e. e.durable.config) c.self.view_is;
      gone = ap (λ f. f.memory) c.remove_entries.ensures;
      cleared = record {
        held = held;
        stands = λ life past tester bytes clears s. partly_first life past (ops.Request tester bytes) (holding held first) (subst (λ e. StandsAfter life past e) (sym same) s);
        left = λ k d within. omega arith;
        within = subst (λ (e : EventsView). All (λ (entry : EntryState). entry.event < length e.durable.config.events.items) held.entries) c.self.view_is
            (subst (λ n. All (λ (entry : EntryState). entry.event < n) held.entries) c.count-count.ensures.count c.count-count.ensures.within);
      };
    }

pub loop-event-preserved : goal.loop-event-preserved
loop-event-preserved c =
    let inv = c.loop-event.invariant in
    let event = c.loop-event.event in
    let held = inv.cleared.held in
    let n = length c.args.self.now.durable.config.events.items in
    record {
      config = c.forget.ensures.config ∙ inv.config;
      gone = c.forget.ensures.memory ∙ inv.gone;
      cleared = record {
        held = without_entry event held;
        stands = λ life past tester bytes clears s.
            partly_next life past (ops.Request tester bytes) event (holding held c.loop-event.self) (holding (without_entry event held) c.forget.new.self)
            (c.forget.ensures.part held life past tester all_dtcs bytes clears refl) (inv.cleared.stands life past tester bytes clears s);
        left = left_more event held.entries (without_entry event held).entries refl inv.cleared.left;
        within = All-filter (λ (entry : EntryState). not (is_of_event event entry)) (λ (entry : EntryState). entry.event < n) held.entries inv.cleared.within;
      };
    }

pub returns-clause-stands : goal.returns-clause-stands
returns-clause-stands c = λ life past tester bytes clears s.
    let op = ops.Request tester bytes in
    let inv = c.loop-event.invariant in
    let events = c.loop-event.self in
    let held = inv.cleared.held in
    let n = length c.args.self.now.durable.config.events.items in
    let last : c.loop-event.event ≡ n =
    omega (arith, c.count-count.ensures.count, ap (λ e. length e.durable.config.events.items) c.self.view_is, c.loop-event-test.false, c.loop-event.auto.event-end) in
    let all : c.loop-event.event ≡ count life = omega (arith, last, ap (λ k. length k.events.items) s.durable_stands.config) in
    let whole = subst (λ m. StandsPartly life past op m (holding held events)) all (inv.cleared.stands life past tester bytes clears s) in
    let none = none_left n held.entries (subst (λ k. All (λ (entry : EntryState). k ≤ entry.event) held.entries) last inv.cleared.left) inv.cleared.within in
    let stood = whole.durable_stands in
    partly_cleared life past op (holding held events) events.durable clears whole (record {
      config = stood.config;
      states_stand = record { one_each = stood.states_stand.one_each; each = stood.states_stand.each };
      memory_stands = record {
        entries = ap (λ m. m.entries) inv.gone ∙ sym none ∙ stood.memory_stands.entries;
        overflow = ap (λ m. m.overflow) inv.gone;
      };
      notes = stood.notes;
    })
