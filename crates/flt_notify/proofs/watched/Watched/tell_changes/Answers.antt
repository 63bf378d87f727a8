use Rattle.std.proofs.Common.{◌≡◌, ◌∙◌, ◌<◌, [], ◌∷◌, length, get_or, fold, false, refl, sym, ap, subst, arith}
use Rattle.std.specs.Prelude.{slice_index_or, slice_set}
use Rattle.std.proofs.lemmas.List.{get_or-map, length-map}
use Rattle.flt_config.specs.declared.persist.EventState.{EventState}
use Rattle.flt_model.specs.Start.{count}
use Rattle.flt_dcm.specs.Unit.{IsAdmitted, Stands}
use Rattle.flt_notify.specs.Changes.{changes_from, statuses, statuses_after}
use Rattle.flt_notify.specs.Subscribers.{AreTold}
use Rattle.flt_notify.specs.Value.{next_values}
use Rattle.flt_notify.specs.Watched.{watched_unit}
use Rattle.flt_notify.proofs.TouchedLemmas.{length_bytes, no_changes, refilled, report_changes_one, unmarked_changes_none}
use Rattle.flt_notify.proofs.watched.Watched.tell_changes.Goals as goal

pub returns-then-not-has_entered-clause-reports : goal.returns-then-not-has_entered-clause-reports
returns-then-not-has_entered-clause-reports g c = λ life past bytes stands.
    let event = c.in-Report.event in
    let later = c.args.op.now ∷ past in
    let place = c.args.self.now.calls in
    let befores = statuses_after life past in
    let afters = statuses_after life later in
    let states = c.states-states.result.now in
    let blank : EventState = record { status = 0; failed = 0; clean = 0; lit = false } in
    let at : c.from-place.result ≡ event = c.from-place.ensures in
    let held = ap (λ v. v.items) c.deref_mut.ensures.value ∙ bytes in
    let before : c.as_mut_slice-bytes.result.now ≡ befores = c.as_mut_slice-bytes.ensures.value ∙ held in
    let after : statuses states ≡ afters = ap statuses (c.states-states.ensures.stands life later (subst (Stands life later) (sym c.deref.ensures) stands)) in
    let admitted : event < length (watched_unit c.args.self.now).dem.durable.config.events.items =
    subst (IsAdmitted (watched_unit c.args.self.now).dem.durable.config) c.in-Report.is c.requires.admitted in
    let within : event < count life = omega (arith, admitted, c.args.self.now.one_each, ap length bytes, length_bytes life past) in
    let inside : c.from-place.result < length states =
    omega (arith, within, at, ap length after, length-map states (λ (state : EventState). state.status), length_bytes life later) in
    let old : slice_index_or c.as_mut_slice-bytes.result.now c.from-place.result 0 ≡ get_or befores event 0 = λ i. get_or (before i) (at i) 0 in
    let new = sym (get_or-map (λ (state : EventState). state.status) states c.from-place.result blank 0 inside) ∙ (λ i. get_or (after i) (at i) 0) in
    let one = report_changes_one life past c.args.op.now event c.in-Report.report place c.in-Report.is within
    (λ entered. let yes = c.has_entered.ensures.1 (rw old entered.0, rw new entered.1) in absurd (cc (yes, c.if-not-has_entered.true))) in
    let made : changes_from place event (slice_index_or c.as_mut_slice-bytes.result.now c.from-place.result 0 ∷ []) ((slice_index_or states c.from-place.result blank).status ∷ []) ≡ changes_from place 0 befores afters =
    (λ i. changes_from place event (old i ∷ []) (new i ∷ [])) ∙ sym one.changes in
    record {
      values_are = c.tell_event.ensures.values ∙ ap (fold (next_values 0) c.args.self.now.values) made;
      called = subst (λ made. AreTold c.args.subscribers.now c.args.self.now.values made c.tell_event.new.self) made c.tell_event.ensures.called;
      noted = refilled life past later _ _ held ((λ i. slice_set (before i) (at i) (new i)) ∙ one.noted);
    }

pub returns-then-not-may_mark : goal.returns-then-not-may_mark
returns-then-not-may_mark g c = record {
  unit = refl;
  calls = refl;
  reports = λ life past bytes stands.
      let later = c.args.op.now ∷ past in
      let place = c.args.self.now.calls in
      let held = ap (λ v. v.items) c.deref_mut.ensures.value ∙ bytes in
      let same = unmarked_changes_none life past c.args.op.now (c.may_mark.ensures c.if-not-may_mark.true) in
      let made : changes_from place 0 (statuses_after life past) (statuses_after life later) ≡ [] =
      ap (changes_from place 0 (statuses_after life past)) same ∙ no_changes place (statuses_after life past) in
      record {
        values_are = sym (ap (fold (next_values 0) c.args.self.now.values) made);
        called = subst (λ made. AreTold c.args.subscribers.now c.args.self.now.values made c.args.self.now.values) (sym made) refl;
        noted = refilled life past later _ _ held (c.as_mut_slice-bytes.ensures.value ∙ held ∙ sym same);
      };
}

pub returns-clause-reports : goal.returns-clause-reports
returns-clause-reports g c = λ life past bytes stands.
    let later = c.args.op.now ∷ past in
    let place = c.args.self.now.calls in
    let held = ap (λ v. v.items) c.deref_mut.ensures.value ∙ bytes in
    let before = c.as_mut_slice-bytes.ensures.value ∙ held in
    let after = ap statuses (c.states-states.ensures.stands life later (subst (Stands life later) (sym c.deref.ensures) stands)) in
    let made : changes_from place 0 c.as_mut_slice-bytes.result.now (statuses c.states-states.result.now) ≡ changes_from place 0 (statuses_after life past) (statuses_after life later) =
    λ i. changes_from place 0 (before i) (after i) in
    record {
      values_are = c.tell_changes.ensures.values ∙ ap (fold (next_values 0) c.args.self.now.values) made;
      called = subst (λ made. AreTold c.args.subscribers.now c.args.self.now.values made c.tell_changes.new.self) made c.tell_changes.ensures.called;
      noted = refilled life past later _ _ held (c.tell_changes.ensures.noted ∙ after);
    }
