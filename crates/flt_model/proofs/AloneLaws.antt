-- A call about one event leaves the others alone.
use Rattle.std.proofs.Common.{◌≡◌, ◌≢◌, ◌∙◌, ℕ, zero, suc, ◌<◌, ◌≤◌, nat_eq, nat_lt, Bool, true, false, List, ◌∷◌, length, get_or, Option, Some, None, refl, sym, ap, subst, arith, inl, inr, AllPairs}
use Rattle.std.specs.Prelude.{◌⊎◌}
use Rattle.std.proofs.lemmas.Bool.{cases_Bool, cases_eq, ne_eqb, cases_order}
use Rattle.std.proofs.lemmas.Option.{unwrap_or-slice_get}
use Rattle.flt_config.specs.declared.config.EventCfg.{EventCfg}
use Rattle.flt_config.specs.Validity.{HasOtherDtc}
use Rattle.flt_model.specs.declared.call.Op.{Op}
use Rattle.flt_model.specs.declared.call.Op.TheVariants as ops
use Rattle.flt_model.specs.declared.call.Qualified.{Qualified}
use Rattle.flt_model.specs.declared.call.Qualified.TheVariants as results
use Rattle.flt_model.specs.Start.{Start, History, count, event_of, base_of, no_event}
use Rattle.flt_model.specs.Mark.{Mark, Past, Trace, Of, marks_of}
use Rattle.flt_model.specs.Mark.Mark.{Failed, Passed, Cycle, Clear, Aged, Displaced, Added, Refused}
use Rattle.flt_model.specs.Status.{enters, ages}
use Rattle.flt_model.specs.Entry.{holders, has_entry, worst, rank_of, gives_way}
use Rattle.flt_model.specs.Debounce.{Happening, Reported, Ticked, Ended, Cleared}
use Rattle.flt_model.specs.Happening.{happening_of, happening_of_clear, signals, cleared_dtc, all_dtcs}
use Rattle.flt_model.specs.Trace.{trace, with_clear, in_order, event_part, with_marks, with_result, result_of, aged_where, stored_where, stored, added, added_in_full, added_for}
use Rattle.flt_model.specs.CallLaws.{IsAboutEvent, IsLeftAlone, OthersAreLeftAlone, ReportIsAboutItsEvent, ClearIsAboutItsEvent, DisplacementLeavesOtherBits}

-- ---- the marks of one event, seen from another

-- One more mark of the event.
other_mark : (event other : ℕ) (mark : Mark) (signals : List ℕ) (marks : Trace) → other ≢ event →
    marks_of other (Of event mark signals ∷ marks) ≡ marks_of other marks
other_mark event other mark signals marks ne = rw (ne_eqb event other (λ same. ne (sym same))) refl

-- One more mark of the event, where the other was left alone before.
and_mark : (event other : ℕ) (mark : Mark) (signals : List ℕ) (old : Past) (marks : Trace) → other ≢ event → IsLeftAlone old (marks_of other marks) →
    IsLeftAlone old (marks_of other (Of event mark signals ∷ marks))
and_mark event other mark signals old marks ne (inl same) = inl (other_mark event other mark signals marks ne ∙ same)
and_mark event other mark signals old marks ne (inr more) = inr (other_mark event other mark signals marks ne ∙ more)

module _ (life : Start) (event other : ℕ) (ne : other ≢ event) where
  -- A displacement of some event.
  displaced_alone : (worst : ℕ) (signals : List ℕ) (old : Past) (marks : Trace) → marks_of other marks ≡ old → IsLeftAlone old (marks_of other (Of worst Displaced signals ∷ marks))
  displaced_alone worst signals old marks e =
      elim (cases_Bool (nat_eq worst other)) [
        | inl same ↦ inr (rw same (ap (λ past. Displaced ∷ past) e))
        | inr apart ↦ inl (rw apart e)
      ]

  alone_for : (signals : List ℕ) (worst : ℕ) (test : Bool) (old : Past) (marks : Trace) → marks_of other marks ≡ old → IsLeftAlone old (marks_of other (added_for life signals event worst test marks))
  alone_for signals worst true old marks e = and_mark event other Added signals old (Of worst Displaced signals ∷ marks) ne (displaced_alone worst signals old marks e)
  alone_for signals worst false old marks e = inl (other_mark event other Refused signals marks ne ∙ e)

  alone_in_full : (signals : List ℕ) (found : Option ℕ) (old : Past) (marks : Trace) → marks_of other marks ≡ old → IsLeftAlone old (marks_of other (added_in_full life signals event found marks))
  alone_in_full signals None old marks e = inl (other_mark event other Refused signals marks ne ∙ e)
  alone_in_full signals (Some worst) old marks e = alone_for signals worst (gives_way (rank_of life marks worst) (event_of life event).priority) old marks e

  alone_added : (signals : List ℕ) (room : Bool) (old : Past) (marks : Trace) → marks_of other marks ≡ old → IsLeftAlone old (marks_of other (added life signals event room marks))
  alone_added signals true old marks e = inl (other_mark event other Added signals marks ne ∙ e)
  alone_added signals false old marks e = alone_in_full signals (worst (rank_of life marks) (holders life marks)) old marks e

  alone_stored : (signals : List ℕ) (held : Bool) (old : Past) (marks : Trace) → marks_of other marks ≡ old → IsLeftAlone old (marks_of other (stored life signals event held marks))
  alone_stored signals true old marks e = inl e
  alone_stored signals false old marks e = alone_added signals (nat_lt (length (holders life marks)) life.config.memory) old marks e

  alone_where : (signals : List ℕ) (entering : Bool) (old : Past) (marks : Trace) → marks_of other marks ≡ old → IsLeftAlone old (marks_of other (stored_where life signals event entering marks))
  alone_where signals true old marks e = alone_stored signals (has_entry life event marks) old marks e
  alone_where signals false old marks e = inl e

  alone_aged : (signals : List ℕ) (test : Bool) (old : Past) (marks : Trace) → marks_of other marks ≡ old → IsLeftAlone old (marks_of other (aged_where signals event test marks))
  alone_aged signals true old marks e = inl (other_mark event other Aged signals marks ne ∙ e)
  alone_aged signals false old marks e = inl e

  alone_result : (signals : List ℕ) (result : Option Qualified) (marks : Trace) → IsLeftAlone (marks_of other marks) (marks_of other (with_result life signals event result marks))
  alone_result signals None marks = inl refl
  alone_result signals (Some results.Passed) marks = inl (other_mark event other Passed signals marks ne)
  alone_result signals (Some results.Failed) marks =
      alone_where signals (enters (base_of life event) (marks_of event marks)) (marks_of other marks) (Of event Failed signals ∷ marks) (other_mark event other Failed signals marks ne)

  alone_marks : (past : History) (happening : Option Happening) (marks : Trace) → IsLeftAlone (marks_of other marks) (marks_of other (with_marks life event past happening marks))
  alone_marks past None marks = inl refl
  alone_marks past (Some (Reported report)) marks = alone_result (signals past) (result_of life event past (Reported report)) marks
  alone_marks past (Some (Ticked ticks)) marks = alone_result (signals past) (result_of life event past (Ticked ticks)) marks
  alone_marks past (Some Ended) marks =
      alone_aged (signals past) (ages (base_of life event) (event_of life event) (marks_of event marks)) (marks_of other marks) (Of event Cycle (signals past) ∷ marks) (other_mark event other Cycle (signals past) marks ne)
  alone_marks past (Some Cleared) marks = inl (other_mark event other Clear (signals past) marks ne)

-- ---- a call about one event

-- An event to which nothing happens has no part.
no_part : (life : Start) (past : History) (op : Op) (event : ℕ) (marks : Trace) → happening_of life event past op ≡ None → event_part life past op event marks ≡ marks
no_part life past op event marks none = ap (λ h. with_marks life event past h marks) none

-- The parts in order are that of the one event, or none.
alone_in_order : (life : Start) (past : History) (op : Op) (event other : ℕ) (n : ℕ) (marks : Trace) → n ≤ count life → IsAboutEvent life past op event → other ≢ event →
    (in_order (event_part life past op) n marks ≡ marks) ⊎ ((event < n) × (in_order (event_part life past op) n marks ≡ event_part life past op event marks))
alone_in_order life past op event other zero marks within about ne = inl refl
alone_in_order life past op event other (suc n) marks within about ne =
    let earlier = in_order (event_part life past op) n marks in
    elim (cases_eq n event) [
      | inl same ↦
          elim (alone_in_order life past op event other n marks (omega (arith, within)) about ne) [
            | inl still ↦ inr (omega (arith, same), ap (λ e. event_part life past op e earlier) same ∙ ap (λ m. event_part life past op event m) still)
            | inr had ↦ absurd (omega (arith, had.0, same))
          ]
      | inr apart ↦
          let still : event_part life past op n earlier ≡ earlier = no_part life past op n earlier (about n (omega (arith, within)) apart) in
          elim (alone_in_order life past op event other n marks (omega (arith, within)) about ne) [
            | inl before ↦ inl (still ∙ before)
            | inr had ↦ inr (omega (arith, had.0), still ∙ had.1)
          ]
    ]

-- A mark of a clear of all is no event's.
clear_alone : (other : ℕ) (dtc : Option ℕ) (marks : Trace) → marks_of other (with_clear dtc marks) ≡ marks_of other marks
clear_alone other None marks = refl
clear_alone other (Some dtc) marks = elim (cases_Bool (nat_eq dtc all_dtcs)) [ inl e ↦ rw e refl | inr e ↦ rw e refl ]

pub others_are_left_alone : OthersAreLeftAlone
others_are_left_alone life past op event other about ne =
    let marks = trace life past in
    let all = in_order (event_part life past op) (count life) marks in
    let same : marks_of other (trace life (op ∷ past)) ≡ marks_of other all = clear_alone other (cleared_dtc op) all in
    let left : IsLeftAlone (marks_of other marks) (marks_of other all) =
    elim (alone_in_order life past op event other (count life) marks (omega arith) about ne) [
      | inl still ↦ inl (ap (marks_of other) still)
      | inr one ↦ subst (λ m. IsLeftAlone (marks_of other marks) (marks_of other m)) (sym one.1) (alone_marks life event other ne past (happening_of life event past op) marks)
    ] in
    subst (λ new. IsLeftAlone (marks_of other marks) new) (sym same) left

pub report_is_about_its_event : ReportIsAboutItsEvent
report_is_about_its_event life past event report other within ne = rw (ne_eqb event other (λ same. ne (sym same))) refl

-- ---- a clear of one DTC

read_event : (life : Start) (event : ℕ) → get_or life.config.events.items event no_event ≡ event_of life event
read_event life event = sym (unwrap_or-slice_get life.config.events.items event no_event)

other_dtc : (life : Start) (event other : ℕ) → AllPairs HasOtherDtc life.config.events.items → event < count life → other < count life → other ≢ event →
    (event_of life event).dtc ≢ (event_of life other).dtc
other_dtc life event other distinct within_event within_other ne same =
    let events = life.config.events.items in
    let at_event : (get_or events event no_event).dtc ≡ (event_of life event).dtc = ap (λ (e : EventCfg). e.dtc) (read_event life event) in
    let at_other : (get_or events other no_event).dtc ≡ (event_of life other).dtc = ap (λ (e : EventCfg). e.dtc) (read_event life other) in
    elim (cases_order event other) [
      | inl equal ↦ ne (sym equal)
      | inr (inl less) ↦ distinct event other no_event less within_other (at_event ∙ same ∙ sym at_other)
      | inr (inr more) ↦ distinct other event no_event more within_event (at_other ∙ sym same ∙ sym at_event)
    ]

-- What a clear that does not reach an event is for it.
unreached : (life : Start) (other dtc : ℕ) → dtc ≢ all_dtcs → dtc ≢ (event_of life other).dtc → happening_of_clear life other (Some dtc) ≡ None
unreached life other dtc not_all ne = rw (ne_eqb dtc all_dtcs not_all, ne_eqb dtc (event_of life other).dtc ne) refl

pub clear_is_about_its_event : ClearIsAboutItsEvent
clear_is_about_its_event life past (ops.Request tester bytes) event distinct within not_all e other within_other ne =
    ap (happening_of_clear life other) e ∙ unreached life other (event_of life event).dtc not_all (other_dtc life event other distinct within within_other ne)
clear_is_about_its_event life past (ops.Signal index value) event distinct within not_all e other within_other ne = absurd (cc)
clear_is_about_its_event life past (ops.Enable condition fulfilled) event distinct within not_all e other within_other ne = absurd (cc)
clear_is_about_its_event life past (ops.Report of report) event distinct within not_all e other within_other ne = absurd (cc)
clear_is_about_its_event life past (ops.Tick ticks) event distinct within not_all e other within_other ne = absurd (cc)
clear_is_about_its_event life past (ops.Cycle cycle) event distinct within not_all e other within_other ne = absurd (cc)
clear_is_about_its_event life past (ops.Show of) event distinct within not_all e other within_other ne = absurd (cc)
clear_is_about_its_event life past ops.Snapshot event distinct within not_all e other within_other ne = absurd (cc)
clear_is_about_its_event life past (ops.Saved generation) event distinct within not_all e other within_other ne = absurd (cc)

pub displacement_leaves_other_bits : DisplacementLeavesOtherBits
displacement_leaves_other_bits base event past = refl
