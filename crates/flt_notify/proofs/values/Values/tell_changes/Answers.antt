use Rattle.std.proofs.Common.{◌∙◌, ◌+◌, [], ◌∷◌, drop, get_or, set, fold, false, sym, ap, subst, arith}
use Rattle.std.proofs.lemmas.List.{get_or-map, length-map}
use Rattle.std.proofs.lemmas.List.Sums.{fold-append}
use Rattle.flt_config.specs.declared.persist.EventState.{EventState}
use Rattle.flt_notify.specs.Changes.{changes_from, statuses}
use Rattle.flt_notify.specs.Subscribers.{AreTold}
use Rattle.flt_notify.specs.Value.{next_values}
use Rattle.flt_notify.proofs.TouchedLemmas.{changes_more, folds_append, writes_one}
use Rattle.flt_notify.proofs.values.Values.tell_changes.Goals as goal

pub loop-event-preserved : goal.loop-event-preserved
loop-event-preserved g c =
    let place = c.args.place in
    let event = c.loop-event.event in
    let bytes = c.args.bytes.now in
    let states = c.args.states.now in
    let within = c.loop-event-test.true in
    let blank : EventState = record { status = 0; failed = 0; clean = 0; lit = false } in
    let one_each = c.requires.one_each in
    let of_each = length-map states (λ (state : EventState). state.status) in
    let byte = writes_one bytes (statuses states) c.loop-event.bytes event within (omega (arith, one_each, of_each)) c.loop-event.invariant.2 in
    let state = get_or-map (λ (state : EventState). state.status) states event blank 0 (omega (arith, within, one_each)) in
    let first = changes_from place event (get_or bytes event 0 ∷ []) ((get_or states event blank).status ∷ []) in
    let rest = changes_from place (event + 1) (drop (event + 1) bytes) (statuses (drop (event + 1) states)) in
    let more = changes_more place event bytes states blank within one_each in
    let one = ap (λ before. changes_from place event (before ∷ []) ((get_or states event blank).status ∷ [])) byte.read in
    let called = subst (λ made. AreTold c.args.subscribers.now c.loop-event.self made c.tell_event.new.self) one c.tell_event.ensures.called in (
      ap (λ values. fold (next_values 0) values rest) (c.tell_event.ensures.values ∙ ap (fold (next_values 0) c.loop-event.self) one)
          ∙ sym (fold-append (next_values 0) c.loop-event.self first rest) ∙ ap (fold (next_values 0) c.loop-event.self) (sym more) ∙ c.loop-event.invariant.0,
      (λ later told. c.loop-event.invariant.1 later (subst (λ made. AreTold c.args.subscribers.now c.loop-event.self made later) (sym more)
          (folds_append _ c.loop-event.self first rest c.tell_event.new.self later called told))),
      ap (λ status. set c.loop-event.bytes event status) (sym state) ∙ byte.written,
    )
