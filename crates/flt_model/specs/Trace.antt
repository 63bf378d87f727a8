-- The marks of all events, as the calls since power-up make them (this profile).
use Rattle.std.specs.Prelude.{ℕ, zero, suc, nat_lt, ◌==◌, Bool, true, false, if◌then◌else◌, List, [], ◌∷◌, length, Option, Some, None}
use Rattle.flt_model.specs.Start.{Start, History, count, event_of, base_of}
use Rattle.flt_model.specs.Mark.{Trace, Of, AllCleared, marks_of}
use Rattle.flt_model.specs.Mark.Mark.{Failed, Passed, Cycle, Clear, Aged, Displaced, Added, Refused}
use Rattle.flt_model.specs.Status.{ages, enters}
use Rattle.flt_model.specs.Debounce.{Happening, Reported, Ticked, Ended, Cleared, qualified}
use Rattle.flt_model.specs.Happening.{happening_of, happenings, signals, cleared_dtc, all_dtcs}
use Rattle.flt_model.specs.Entry.{holders, has_entry, rank_of, worst, gives_way}
use Rattle.flt_model.specs.declared.call.Op.{Op}
use Rattle.flt_model.specs.declared.call.Qualified.{Qualified}
use Rattle.flt_model.specs.declared.call.Qualified.TheVariants as results

-- ---- a failure

-- An event of this priority instead of the worst entry, if that gives way.
abbrev pub added_for : Start → List ℕ → ℕ → ℕ → Bool → Trace → Trace
added_for life signals event worst true trace = Of event Added signals ∷ Of worst Displaced signals ∷ trace
added_for life signals event worst false trace = Of event Refused signals ∷ trace

-- An event in a full memory, whose worst entry may give way.
abbrev pub added_in_full : Start → List ℕ → ℕ → Option ℕ → Trace → Trace
added_in_full life signals event None trace = Of event Refused signals ∷ trace
added_in_full life signals event (Some worst) trace =
    added_for life signals event worst (gives_way (rank_of life trace worst) (event_of life event).priority) trace

-- An event without an entry, with room and without room.
abbrev pub added : Start → List ℕ → ℕ → Bool → Trace → Trace
added life signals event true trace = Of event Added signals ∷ trace
added life signals event false trace = added_in_full life signals event (worst (rank_of life trace) (holders life trace)) trace

-- What a failure that changes the test result does to the entries.
abbrev pub stored : Start → List ℕ → ℕ → Bool → Trace → Trace
stored life signals event true trace = trace
stored life signals event false trace = added life signals event (nat_lt (length (holders life trace)) life.config.memory) trace

-- A failure that changes the test result is stored.
abbrev pub stored_where : Start → List ℕ → ℕ → Bool → Trace → Trace
stored_where life signals event true trace = stored life signals event (has_entry life event trace) trace
stored_where life signals event false trace = trace

-- A failure of an event, and what it does to the entries.
abbrev pub with_failed : Start → List ℕ → ℕ → Trace → Trace
with_failed life signals event trace =
    stored_where life signals event (enters (base_of life event) (marks_of event trace)) (Of event Failed signals ∷ trace)

-- ---- the end of a cycle

-- The event aged.
abbrev pub aged_where : List ℕ → ℕ → Bool → Trace → Trace
aged_where signals event true trace = Of event Aged signals ∷ trace
aged_where signals event false trace = trace

-- The end of a cycle of an event, and its aging.
abbrev pub with_cycle : Start → List ℕ → ℕ → Trace → Trace
with_cycle life signals event trace =
    aged_where signals event (ages (base_of life event) (event_of life event) (marks_of event trace)) (Of event Cycle signals ∷ trace)

-- ---- a call

-- The marks of a test result, if there is one.
abbrev pub with_result : Start → List ℕ → ℕ → Option Qualified → Trace → Trace
with_result life signals event None trace = trace
with_result life signals event (Some results.Failed) trace = with_failed life signals event trace
with_result life signals event (Some results.Passed) trace = Of event Passed signals ∷ trace

-- The result that a happening qualifies after a past.
abbrev pub result_of : Start → ℕ → History → Happening → Option Qualified
result_of life event past happening = qualified (event_of life event).debounce (happenings life event past) happening

-- The marks of what happens to an event after a past.
abbrev pub with_marks : Start → ℕ → History → Option Happening → Trace → Trace
with_marks life event past None trace = trace
with_marks life event past (Some (Reported report)) trace = with_result life (signals past) event (result_of life event past (Reported report)) trace
with_marks life event past (Some (Ticked ticks)) trace = with_result life (signals past) event (result_of life event past (Ticked ticks)) trace
with_marks life event past (Some Ended) trace = with_cycle life (signals past) event trace
with_marks life event past (Some Cleared) trace = Of event Clear (signals past) ∷ trace

-- What a call does to one event.
abbrev pub event_part : Start → History → Op → ℕ → Trace → Trace
event_part life past op event trace = with_marks life event past (happening_of life event past op) trace

-- What it does to the events below a number, in order of number.
abbrev pub in_order : (ℕ → Trace → Trace) → ℕ → Trace → Trace
in_order part zero trace = trace
in_order part (suc event) trace = part event (in_order part event trace)

-- A call that clears all leaves a mark of its own.
abbrev pub with_clear : Option ℕ → Trace → Trace
with_clear None trace = trace
with_clear (Some dtc) trace = if dtc == all_dtcs then AllCleared ∷ trace else trace

-- The marks of all events after a list of calls, newest first.
abbrev pub trace : Start → History → Trace
trace life [] = []
trace life (op ∷ past) = with_clear (cleared_dtc op) (in_order (event_part life past op) (count life) (trace life past))
