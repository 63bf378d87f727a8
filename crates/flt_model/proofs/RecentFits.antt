-- The recent frame of an entry has the width of its event: it is taken by the failure that adds the entry, or by a later one.
use Rattle.std.proofs.Common.{◌≡◌, ℕ, zero, suc, nat_eq, nat_lt, Bool, true, false, ◌&&◌, List, [], ◌∷◌, length, Option, Some, None, refl, subst, inl, inr, eqb-true, eq-eqb}
use Rattle.std.specs.Prelude.{unwrap_or, is_some, if◌then◌else◌}
use Rattle.std.proofs.lemmas.Bool.{cases_Bool}
use Rattle.flt_config.specs.Ranges.{frame_width}
use Rattle.flt_model.specs.Start.{Start, History, count, event_of, base_of}
use Rattle.flt_model.specs.Mark.{Mark, Past, Trace, Of, own, marks_of, decided}
use Rattle.flt_model.specs.Mark.Mark.{Failed, Passed, Cycle, Clear, Aged, Displaced, Added, Refused}
use Rattle.flt_model.specs.Status.{enters, ages}
use Rattle.flt_model.specs.Entry.{holders, has_entry, worst, rank_of, gives_way, entry_row, base_entry, base_recent, recent_row, frame}
use Rattle.flt_model.specs.Debounce.{Happening, Reported, Ticked, Ended, Cleared}
use Rattle.flt_model.specs.Happening.{happening_of, signals, cleared_dtc, all_dtcs}
use Rattle.flt_model.specs.Trace.{trace, with_clear, in_order, event_part, with_marks, with_result, result_of, aged_where, stored_where, stored, added, added_in_full, added_for}
use Rattle.flt_model.specs.declared.call.Op.{Op}
use Rattle.flt_model.specs.declared.call.Qualified.{Qualified}
use Rattle.flt_model.specs.declared.call.Qualified.TheVariants as results
use Rattle.flt_model.proofs.EntryFits.{AreNarrow, IsNotAdded, still, own_frame}

module _ (life : Start) (narrow : (event : ℕ) → AreNarrow (event_of life event).dids.items) where
  -- The recent frame of an event has its width.
  abbrev IsFramed : ℕ → Trace → Type 0
  IsFramed event marks = length (decided (recent_row life event) (base_recent life event) marks) ≡ frame_width (event_of life event).dids.items

  -- That of each event that has an entry.
  abbrev pub AreFramed : Trace → Type 0
  AreFramed marks = (event : ℕ) → has_entry life event marks ≡ true → IsFramed event marks

  -- A mark that takes no frame.
  abbrev IsPlain : Mark → Type 0
  IsPlain Failed = ⊥
  IsPlain _ = Unit {0}

  -- What is framed stays so under a plain mark.
  plain : (event other : ℕ) (mark : Mark) → IsPlain mark → (sent : List ℕ) (marks : Trace) → IsFramed event marks → IsFramed event (Of other mark sent ∷ marks)
  plain event other Failed is sent marks framed = absurd is
  plain event other Passed is sent marks framed = framed
  plain event other Cycle is sent marks framed = framed
  plain event other Clear is sent marks framed = framed
  plain event other Aged is sent marks framed = framed
  plain event other Displaced is sent marks framed = framed
  plain event other Added is sent marks framed = framed
  plain event other Refused is sent marks framed = framed

  -- Those of all events, under a plain mark that gives no entry.
  kept_plain : (other : ℕ) (mark : Mark) → IsPlain mark → IsNotAdded mark → (sent : List ℕ) (marks : Trace) → AreFramed marks → AreFramed (Of other mark sent ∷ marks)
  kept_plain other mark is not sent marks framed = λ event held.
      plain event other mark is sent marks (framed event (still mark not (is_some (base_entry life event)) (nat_eq other event) (marks_of event marks) held))

  failed_cond : (b entering flag : Bool) (past : Past) (rest bytes : List ℕ) (wide : ℕ) → (decided entry_row flag past ≡ true → length rest ≡ wide) → length bytes ≡ wide
      → decided entry_row flag (own b Failed past) ≡ true → length (unwrap_or (if b && entering then Some bytes else None) rest) ≡ wide
  failed_cond true true flag past rest bytes wide before is held = is
  failed_cond true false flag past rest bytes wide before is held = before held
  failed_cond false entering flag past rest bytes wide before is held = before held

  -- Under a failure.
  framed_failed : (other : ℕ) (sent : List ℕ) (marks : Trace) → AreFramed marks → AreFramed (Of other Failed sent ∷ marks)
  framed_failed other sent marks framed = λ event held.
      failed_cond (nat_eq other event) (enters (base_of life event) (marks_of event marks)) (is_some (base_entry life event)) (marks_of event marks) _ (frame life event sent) _
      (framed event) (own_frame life event (narrow event) sent) held

  fresh_cond : (b entering : Bool) → b ≡ true → entering ≡ true → (rest bytes : List ℕ) (wide : ℕ) → length bytes ≡ wide → length (unwrap_or (if b && entering then Some bytes else None) rest) ≡ wide
  fresh_cond true true same enters rest bytes wide is = is
  fresh_cond true false same enters rest bytes wide is = absurd (cc)
  fresh_cond false entering same enters rest bytes wide is = absurd (cc)

  -- A failure that enters takes the frame.
  fresh : (event : ℕ) (sent : List ℕ) (marks : Trace) → enters (base_of life event) (marks_of event marks) ≡ true → IsFramed event (Of event Failed sent ∷ marks)
  fresh event sent marks entering =
      fresh_cond (nat_eq event event) (enters (base_of life event) (marks_of event marks)) (eq-eqb event event refl) entering _ (frame life event sent) _ (own_frame life event (narrow event) sent)

  added_cond : (b flag : Bool) (past : Past) (Goal : Type 0) → (b ≡ true → Goal) → (decided entry_row flag past ≡ true → Goal) → decided entry_row flag (own b Added past) ≡ true → Goal
  added_cond true flag past Goal own_goal before held = own_goal refl
  added_cond false flag past Goal own_goal before held = before held

  -- And where an event gets an entry whose recent frame was taken.
  framed_added : (event : ℕ) (sent : List ℕ) (marks : Trace) → IsFramed event marks → AreFramed marks → AreFramed (Of event Added sent ∷ marks)
  framed_added event sent marks own_framed framed = λ other held.
      added_cond (nat_eq event other) (is_some (base_entry life other)) (marks_of other marks) (IsFramed other (Of event Added sent ∷ marks))
      (λ same. plain other event Added tt sent marks (subst (λ e. IsFramed e marks) (eqb-true event other same) own_framed))
      (λ was. plain other event Added tt sent marks (framed other was)) held

  -- ---- the marks of a call

  module _ (event : ℕ) (sent : List ℕ) where
    framed_for : (worst : ℕ) (test : Bool) (marks : Trace) → IsFramed event marks → AreFramed marks → AreFramed (added_for life sent event worst test marks)
    framed_for worst true marks own_framed framed =
        framed_added event sent (Of worst Displaced sent ∷ marks) (plain event worst Displaced tt sent marks own_framed) (kept_plain worst Displaced tt tt sent marks framed)
    framed_for worst false marks own_framed framed = kept_plain event Refused tt tt sent marks framed

    framed_in_full : (found : Option ℕ) (marks : Trace) → IsFramed event marks → AreFramed marks → AreFramed (added_in_full life sent event found marks)
    framed_in_full None marks own_framed framed = kept_plain event Refused tt tt sent marks framed
    framed_in_full (Some worst) marks own_framed framed = framed_for worst (gives_way (rank_of life marks worst) (event_of life event).priority) marks own_framed framed

    framed_room : (room : Bool) (marks : Trace) → IsFramed event marks → AreFramed marks → AreFramed (added life sent event room marks)
    framed_room true marks own_framed framed = framed_added event sent marks own_framed framed
    framed_room false marks own_framed framed = framed_in_full (worst (rank_of life marks) (holders life marks)) marks own_framed framed

    framed_stored : (held : Bool) (marks : Trace) → IsFramed event marks → AreFramed marks → AreFramed (stored life sent event held marks)
    framed_stored true marks own_framed framed = framed
    framed_stored false marks own_framed framed = framed_room (nat_lt (length (holders life marks)) life.config.memory) marks own_framed framed

    framed_where : (entering : Bool) (marks : Trace) → enters (base_of life event) (marks_of event marks) ≡ entering → AreFramed marks
        → AreFramed (stored_where life sent event entering (Of event Failed sent ∷ marks))
    framed_where true marks is framed = framed_stored (has_entry life event (Of event Failed sent ∷ marks)) (Of event Failed sent ∷ marks) (fresh event sent marks is) (framed_failed event sent marks framed)
    framed_where false marks is framed = framed_failed event sent marks framed

    framed_aged : (test : Bool) (marks : Trace) → AreFramed marks → AreFramed (aged_where sent event test marks)
    framed_aged true marks framed = kept_plain event Aged tt tt sent marks framed
    framed_aged false marks framed = framed

    framed_result : (result : Option Qualified) (marks : Trace) → AreFramed marks → AreFramed (with_result life sent event result marks)
    framed_result None marks framed = framed
    framed_result (Some results.Failed) marks framed = framed_where (enters (base_of life event) (marks_of event marks)) marks refl framed
    framed_result (Some results.Passed) marks framed = kept_plain event Passed tt tt sent marks framed

  framed_marks : (event : ℕ) (past : History) (happening : Option Happening) (marks : Trace) → AreFramed marks → AreFramed (with_marks life event past happening marks)
  framed_marks event past None marks framed = framed
  framed_marks event past (Some (Reported report)) marks framed = framed_result event (signals past) (result_of life event past (Reported report)) marks framed
  framed_marks event past (Some (Ticked ticks)) marks framed = framed_result event (signals past) (result_of life event past (Ticked ticks)) marks framed
  framed_marks event past (Some Ended) marks framed =
      framed_aged event (signals past) (ages (base_of life event) (event_of life event) (marks_of event marks)) (Of event Cycle (signals past) ∷ marks) (kept_plain event Cycle tt tt (signals past) marks framed)
  framed_marks event past (Some Cleared) marks framed = kept_plain event Clear tt tt (signals past) marks framed

  framed_in_order : (past : History) (op : Op) (n : ℕ) (marks : Trace) → AreFramed marks → AreFramed (in_order (event_part life past op) n marks)
  framed_in_order past op zero marks framed = framed
  framed_in_order past op (suc event) marks framed = framed_marks event past (happening_of life event past op) (in_order (event_part life past op) event marks) (framed_in_order past op event marks framed)

  framed_clear : (dtc : Option ℕ) (marks : Trace) → AreFramed marks → AreFramed (with_clear dtc marks)
  framed_clear None marks framed = framed
  framed_clear (Some dtc) marks framed = elim (cases_Bool (nat_eq dtc all_dtcs)) [ inl e ↦ rw e framed | inr e ↦ rw e framed ]

  -- So the recent frames have their widths after every list of calls.
  pub frames_stay : (past : History) → AreFramed [] → AreFramed (trace life past)
  frames_stay [] framed = framed
  frames_stay (op ∷ past) framed = framed_clear (cleared_dtc op) (in_order (event_part life past op) (count life) (trace life past)) (framed_in_order past op (count life) (trace life past) (frames_stay past framed))
