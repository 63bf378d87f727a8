-- What one mark keeps, and an event that is added where it has no entry, every list of calls keeps.
use Rattle.std.proofs.Common.{◌≡◌, ℕ, zero, suc, ◌<◌, nat_eq, nat_lt, Bool, true, false, [], ◌∷◌, length, List, Option, Some, None, refl, subst, inl, inr}
use Rattle.std.proofs.lemmas.Bool.{cases_Bool, ltb-true}
use Rattle.flt_model.specs.Start.{Start, History, count, event_of, base_of}
use Rattle.flt_model.specs.Mark.{Mark, Trace, Of, AllCleared, marks_of}
use Rattle.flt_model.specs.Mark.Mark.{Failed, Passed, Cycle, Clear, Aged, Displaced, Added, Refused}
use Rattle.flt_model.specs.Status.{enters, ages}
use Rattle.flt_model.specs.Entry.{holders, has_entry, is_among, worst, rank_of, gives_way}
use Rattle.flt_model.specs.Debounce.{Happening, Reported, Ticked, Ended, Cleared}
use Rattle.flt_model.specs.Happening.{happening_of, signals, cleared_dtc, all_dtcs}
use Rattle.flt_model.specs.Trace.{trace, with_clear, in_order, event_part, with_marks, with_result, result_of, with_failed, aged_where, stored_where, stored, added, added_in_full, added_for}
use Rattle.flt_model.specs.declared.call.Op.{Op}
use Rattle.flt_model.specs.declared.call.Qualified.{Qualified}
use Rattle.flt_model.specs.declared.call.Qualified.TheVariants as results
use Rattle.flt_model.proofs.EntryLaws.{holders_have_entries}
use Rattle.flt_model.proofs.EntryLemmas.{among_at}
use Rattle.flt_model.proofs.WorstLemmas.{worst_is_at}

-- A mark that adds no entry.
abbrev pub IsNoAdding : Mark → Type 0
IsNoAdding Added = ⊥
IsNoAdding _ = Unit {0}

-- Something that holds of marks goes on to hold with one more: an event is added where it has no entry and there is room, or in place
-- of one that has an entry.
pub record IsKept (life : Start) (P : Trace → Type 0) : Type 0 where
  pub plain : (event : ℕ) (mark : Mark) (signals : List ℕ) (marks : Trace) → IsNoAdding mark → P marks → P (Of event mark signals ∷ marks)
  pub into_room : (event : ℕ) (signals : List ℕ) (marks : Trace) → is_among event (holders life marks) ≡ false → length (holders life marks) < life.config.memory →
      P marks → P (Of event Added signals ∷ marks)
  pub in_place : (event worst : ℕ) (signals : List ℕ) (marks : Trace) → is_among event (holders life marks) ≡ false → is_among worst (holders life marks) ≡ true →
      P marks → P (Of event Added signals ∷ Of worst Displaced signals ∷ marks)
  pub all_cleared : (marks : Trace) → P marks → P (AllCleared ∷ marks)

module _ (life : Start) (P : Trace → Type 0) (kept : IsKept life P) where
  kept_for : (signals : List ℕ) (event worst : ℕ) (test : Bool) (marks : Trace) → is_among event (holders life marks) ≡ false → is_among worst (holders life marks) ≡ true →
      P marks → P (added_for life signals event worst test marks)
  kept_for signals event worst true marks absent present r = kept.in_place event worst signals marks absent present r
  kept_for signals event worst false marks absent present r = kept.plain event Refused signals marks tt r

  kept_in_full : (signals : List ℕ) (event : ℕ) (found : Option ℕ) (marks : Trace) → is_among event (holders life marks) ≡ false →
      worst (rank_of life marks) (holders life marks) ≡ found → P marks → P (added_in_full life signals event found marks)
  kept_in_full signals event None marks absent is r = kept.plain event Refused signals marks tt r
  kept_in_full signals event (Some other) marks absent is r =
      let at = worst_is_at (rank_of life marks) (holders life marks) other is in
      let present : is_among other (holders life marks) ≡ true = subst (λ x. is_among x (holders life marks) ≡ true) at.is (among_at (holders life marks) at.place at.within) in
      kept_for signals event other (gives_way (rank_of life marks other) (event_of life event).priority) marks absent present r

  kept_added : (signals : List ℕ) (event : ℕ) (test : Bool) (marks : Trace) → is_among event (holders life marks) ≡ false →
      nat_lt (length (holders life marks)) life.config.memory ≡ test → P marks → P (added life signals event test marks)
  kept_added signals event true marks absent is r = kept.into_room event signals marks absent (ltb-true (length (holders life marks)) life.config.memory is) r
  kept_added signals event false marks absent is r = kept_in_full signals event (worst (rank_of life marks) (holders life marks)) marks absent refl r

  kept_stored : (signals : List ℕ) (event : ℕ) (held : Bool) (marks : Trace) → is_among event (holders life marks) ≡ held → P marks → P (stored life signals event held marks)
  kept_stored signals event true marks is r = r
  kept_stored signals event false marks is r = kept_added signals event (nat_lt (length (holders life marks)) life.config.memory) marks is refl r

  kept_where : (signals : List ℕ) (event : ℕ) (entering : Bool) (marks : Trace) → P marks → P (stored_where life signals event entering marks)
  kept_where signals event true marks r = kept_stored signals event (has_entry life event marks) marks (holders_have_entries life marks event) r
  kept_where signals event false marks r = r

  kept_failed : (signals : List ℕ) (event : ℕ) (marks : Trace) → P marks → P (with_failed life signals event marks)
  kept_failed signals event marks r =
      kept_where signals event (enters (base_of life event) (marks_of event marks)) (Of event Failed signals ∷ marks) (kept.plain event Failed signals marks tt r)

  kept_aged : (signals : List ℕ) (event : ℕ) (test : Bool) (marks : Trace) → P marks → P (aged_where signals event test marks)
  kept_aged signals event true marks r = kept.plain event Aged signals marks tt r
  kept_aged signals event false marks r = r

  kept_result : (signals : List ℕ) (event : ℕ) (result : Option Qualified) (marks : Trace) → P marks → P (with_result life signals event result marks)
  kept_result signals event None marks r = r
  kept_result signals event (Some results.Failed) marks r = kept_failed signals event marks r
  kept_result signals event (Some results.Passed) marks r = kept.plain event Passed signals marks tt r

  kept_marks : (event : ℕ) (past : History) (happening : Option Happening) (marks : Trace) → P marks → P (with_marks life event past happening marks)
  kept_marks event past None marks r = r
  kept_marks event past (Some (Reported report)) marks r = kept_result (signals past) event (result_of life event past (Reported report)) marks r
  kept_marks event past (Some (Ticked ticks)) marks r = kept_result (signals past) event (result_of life event past (Ticked ticks)) marks r
  kept_marks event past (Some Ended) marks r =
      kept_aged (signals past) event (ages (base_of life event) (event_of life event) (marks_of event marks)) (Of event Cycle (signals past) ∷ marks) (kept.plain event Cycle (signals past) marks tt r)
  kept_marks event past (Some Cleared) marks r = kept.plain event Clear (signals past) marks tt r

  kept_in_order : (past : History) (op : Op) (n : ℕ) (marks : Trace) → P marks → P (in_order (event_part life past op) n marks)
  kept_in_order past op zero marks r = r
  kept_in_order past op (suc event) marks r = kept_marks event past (happening_of life event past op) (in_order (event_part life past op) event marks) (kept_in_order past op event marks r)

  kept_clear : (dtc : Option ℕ) (marks : Trace) → P marks → P (with_clear dtc marks)
  kept_clear None marks r = r
  kept_clear (Some dtc) marks r =
      elim (cases_Bool (nat_eq dtc all_dtcs)) [ inl e ↦ rw e (kept.all_cleared marks r) | inr e ↦ rw e r ]

  pub calls_keep : (past : History) → P [] → P (trace life past)
  calls_keep [] r = r
  calls_keep (op ∷ past) r =
      kept_clear (cleared_dtc op) (in_order (event_part life past op) (count life) (trace life past)) (kept_in_order past op (count life) (trace life past) (calls_keep past r))
