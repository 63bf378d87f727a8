-- A clear of all leaves the first state.
use Rattle.std.proofs.Common.{◌≡◌, ◌≢◌, ◌∙◌, ℕ, zero, suc, ◌+◌, ◌<◌, ◌≤◌, nat_eq, nat_lt, Bool, true, false, List, [], ◌∷◌, ◌++◌, map, filter, length, get_or, replicate, Option, Some, None, refl, ap, subst, arith, inl, inr, eqb-true, eq-eqb}
use Rattle.std.specs.List.{All}
use Rattle.std.proofs.lemmas.Bool.{cases_Bool, ne_eqb}
use Rattle.std.proofs.lemmas.List.{map-append, replicate-append-replicate}
use Rattle.std.proofs.lemmas.List.Elements.{All-head, All-tail}
use Rattle.flt_config.specs.declared.config.EventCfg.{EventCfg}
use Rattle.flt_config.specs.declared.persist.EntryState.{EntryState}
use Rattle.flt_config.specs.declared.persist.EventState.{EventState}
use Rattle.flt_config.specs.Durable.{Fits, IsEntryOf, IsNoted, start_state, initial_state}
use Rattle.flt_model.specs.declared.call.Op.{Op}
use Rattle.flt_model.specs.declared.call.Op.TheVariants as ops
use Rattle.flt_model.specs.declared.call.Qualified.{Qualified}
use Rattle.flt_model.specs.declared.call.Qualified.TheVariants as results
use Rattle.flt_model.specs.Start.{Start, History, count, event_of, base_of}
use Rattle.flt_model.specs.Mark.{Trace, Of, AllCleared, marks_of}
use Rattle.flt_model.specs.Mark.Mark.{Failed, Passed, Cycle, Clear, Aged, Displaced, Added, Refused}
use Rattle.flt_model.specs.Status.{enters, ages}
use Rattle.flt_model.specs.Entry.{holders, has_entry, is_other, worst, rank_of, gives_way, entry_of}
use Rattle.flt_model.specs.Debounce.{Happening, Reported, Ticked, Ended, Cleared}
use Rattle.flt_model.specs.Happening.{happening_of, signals, cleared_dtc, all_dtcs}
use Rattle.flt_model.specs.Trace.{trace, with_clear, in_order, event_part, with_marks, with_result, result_of, aged_where, stored_where, stored, added, added_in_full, added_for}
use Rattle.flt_model.specs.Noted.{Notable, is_entering_failure, is_confirming_failure, recent, first, without, recent_after, first_after}
use Rattle.flt_model.specs.Durable.{below, state_at, saved}
use Rattle.flt_model.specs.CallLaws.{ClearOfAllLeavesFirstState}
use Rattle.flt_model.proofs.WorstLemmas.{worst_is_at}

-- ---- events from a number on, below another

abbrev pub AllWithin : ℕ → ℕ → List ℕ → Type 0
AllWithin low high [] = Unit {0}
AllWithin low high (event ∷ events) = ((low ≤ event) × (event < high)) × AllWithin low high events

within_filtered : (low high event : ℕ) (events : List ℕ) → AllWithin low high events → AllWithin low high (filter (is_other event) events)
within_filtered low high event [] all = tt
within_filtered low high event (first ∷ events) all =
    elim (cases_Bool (nat_eq first event)) [
      | inl same ↦ rw same (within_filtered low high event events all.1)
      | inr apart ↦ rw apart (all.0, within_filtered low high event events all.1)
    ]

within_pushed : (low high event : ℕ) (events : List ℕ) → AllWithin low high events → low ≤ event → event < high → AllWithin low high (events ++ event ∷ [])
within_pushed low high event [] all least less = ((least, less), tt)
within_pushed low high event (first ∷ events) all least less = (all.0, within_pushed low high event events all.1 least less)

pub within_at : (low high : ℕ) (events : List ℕ) (place : ℕ) → AllWithin low high events → place < length events → get_or events place 0 < high
within_at low high [] place all h = absurd (omega (arith, h))
within_at low high (event ∷ events) zero all h = all.0.1
within_at low high (event ∷ events) (suc place) all h = within_at low high events place all.1 (omega (arith, h))

-- Without the lowest.
within_next : (low high : ℕ) (events : List ℕ) → AllWithin low high events → AllWithin (suc low) high (filter (is_other low) events)
within_next low high [] all = tt
within_next low high (event ∷ events) all =
    elim (cases_Bool (nat_eq event low)) [
      | inl same ↦ rw same (within_next low high events all.1)
      | inr apart ↦
          let ne : event ≢ low = λ same. absurd (cc (eq-eqb event low same, apart)) in
          let least : suc low ≤ event = omega (arith, ne, all.0.0) in
          rw apart ((least, all.0.1), within_next low high events all.1)
    ]

none_within : (n : ℕ) (events : List ℕ) → AllWithin n n events → events ≡ []
none_within n [] all = refl
none_within n (event ∷ events) all = absurd (omega (arith, all.0.0, all.0.1))

-- ---- the marks of configured events

abbrev pub TraceBelow : ℕ → Trace → Type 0
TraceBelow n [] = Unit {0}
TraceBelow n (Of event mark signals ∷ marks) = (event < n) × TraceBelow n marks
TraceBelow n (AllCleared ∷ marks) = TraceBelow n marks

base_within : (life : Start) (entries : List EntryState) → All (IsEntryOf life.config.events.items) entries → AllWithin 0 (count life) (map (λ entry. entry.event) entries)
base_within life [] all = tt
base_within life (entry ∷ entries) all =
    let here = All-head (IsEntryOf life.config.events.items) entry entries all in
    ((omega arith, here.event), base_within life entries (All-tail (IsEntryOf life.config.events.items) entry entries all))

module _ (life : Start) (fits : Fits life.config life.base) where
  pub holders_within : (marks : Trace) → TraceBelow (count life) marks → AllWithin 0 (count life) (holders life marks)
  holders_within [] b = base_within life life.base.entries.items fits.entries
  holders_within (AllCleared ∷ marks) b = holders_within marks b
  holders_within (Of event Added signals ∷ marks) b = within_pushed 0 (count life) event (holders life marks) (holders_within marks b.1) (omega arith) b.0
  holders_within (Of event Aged signals ∷ marks) b = within_filtered 0 (count life) event (holders life marks) (holders_within marks b.1)
  holders_within (Of event Displaced signals ∷ marks) b = within_filtered 0 (count life) event (holders life marks) (holders_within marks b.1)
  holders_within (Of event Clear signals ∷ marks) b = within_filtered 0 (count life) event (holders life marks) (holders_within marks b.1)
  holders_within (Of event Failed signals ∷ marks) b = holders_within marks b.1
  holders_within (Of event Passed signals ∷ marks) b = holders_within marks b.1
  holders_within (Of event Cycle signals ∷ marks) b = holders_within marks b.1
  holders_within (Of event Refused signals ∷ marks) b = holders_within marks b.1

  module _ (event : ℕ) (configured : event < count life) where
    below_for : (signals : List ℕ) (worst : ℕ) (test : Bool) (marks : Trace) → worst < count life → TraceBelow (count life) marks → TraceBelow (count life) (added_for life signals event worst test marks)
    below_for signals worst true marks less b = (configured, (less, b))
    below_for signals worst false marks less b = (configured, b)

    below_in_full : (signals : List ℕ) (found : Option ℕ) (marks : Trace) → worst (rank_of life marks) (holders life marks) ≡ found → TraceBelow (count life) marks →
        TraceBelow (count life) (added_in_full life signals event found marks)
    below_in_full signals None marks is b = (configured, b)
    below_in_full signals (Some other) marks is b =
        let at = worst_is_at (rank_of life marks) (holders life marks) other is in
        let less : other < count life = subst (λ e. e < count life) at.is (within_at 0 (count life) (holders life marks) at.place (holders_within marks b) at.within) in
        below_for signals other (gives_way (rank_of life marks other) (event_of life event).priority) marks less b

    below_added : (signals : List ℕ) (room : Bool) (marks : Trace) → TraceBelow (count life) marks → TraceBelow (count life) (added life signals event room marks)
    below_added signals true marks b = (configured, b)
    below_added signals false marks b = below_in_full signals (worst (rank_of life marks) (holders life marks)) marks refl b

    below_stored : (signals : List ℕ) (held : Bool) (marks : Trace) → TraceBelow (count life) marks → TraceBelow (count life) (stored life signals event held marks)
    below_stored signals true marks b = b
    below_stored signals false marks b = below_added signals (nat_lt (length (holders life marks)) life.config.memory) marks b

    below_where : (signals : List ℕ) (entering : Bool) (marks : Trace) → TraceBelow (count life) marks → TraceBelow (count life) (stored_where life signals event entering marks)
    below_where signals true marks b = below_stored signals (has_entry life event marks) marks b
    below_where signals false marks b = b

    below_aged : (signals : List ℕ) (test : Bool) (marks : Trace) → TraceBelow (count life) marks → TraceBelow (count life) (aged_where signals event test marks)
    below_aged signals true marks b = (configured, b)
    below_aged signals false marks b = b

    below_result : (signals : List ℕ) (result : Option Qualified) (marks : Trace) → TraceBelow (count life) marks → TraceBelow (count life) (with_result life signals event result marks)
    below_result signals None marks b = b
    below_result signals (Some results.Passed) marks b = (configured, b)
    below_result signals (Some results.Failed) marks b = below_where signals (enters (base_of life event) (marks_of event marks)) (Of event Failed signals ∷ marks) (configured, b)

    below_marks : (past : History) (happening : Option Happening) (marks : Trace) → TraceBelow (count life) marks → TraceBelow (count life) (with_marks life event past happening marks)
    below_marks past None marks b = b
    below_marks past (Some (Reported report)) marks b = below_result (signals past) (result_of life event past (Reported report)) marks b
    below_marks past (Some (Ticked ticks)) marks b = below_result (signals past) (result_of life event past (Ticked ticks)) marks b
    below_marks past (Some Ended) marks b = below_aged (signals past) (ages (base_of life event) (event_of life event) (marks_of event marks)) (Of event Cycle (signals past) ∷ marks) (configured, b)
    below_marks past (Some Cleared) marks b = (configured, b)

  below_in_order : (past : History) (op : Op) (n : ℕ) (marks : Trace) → n ≤ count life → TraceBelow (count life) marks → TraceBelow (count life) (in_order (event_part life past op) n marks)
  below_in_order past op zero marks within b = b
  below_in_order past op (suc n) marks within b =
      below_marks n (omega (arith, within)) past (happening_of life n past op) (in_order (event_part life past op) n marks) (below_in_order past op n marks (omega (arith, within)) b)

  below_clear : (dtc : Option ℕ) (marks : Trace) → TraceBelow (count life) marks → TraceBelow (count life) (with_clear dtc marks)
  below_clear None marks b = b
  below_clear (Some dtc) marks b = elim (cases_Bool (nat_eq dtc all_dtcs)) [ inl e ↦ rw e b | inr e ↦ rw e b ]

  pub trace_below : (past : History) → TraceBelow (count life) (trace life past)
  trace_below [] = tt
  trace_below (op ∷ past) =
      below_clear (cleared_dtc op) (in_order (event_part life past op) (count life) (trace life past)) (below_in_order past op (count life) (trace life past) (omega arith) (trace_below past))

-- ---- ---- a note of an event from a number on, below another

abbrev pub NoteWithin : ℕ → ℕ → Option ℕ → Type 0
NoteWithin low high None = Unit {0}
NoteWithin low high (Some event) = (low ≤ event) × (event < high)

note_without : (low high event : ℕ) (noted_event : Option ℕ) → NoteWithin low high noted_event → NoteWithin low high (without event noted_event)
note_without low high event None n = tt
note_without low high event (Some other) n = elim (cases_Bool (nat_eq other event)) [ inl same ↦ rw same tt | inr apart ↦ rw apart n ]

note_next : (low high : ℕ) (noted_event : Option ℕ) → NoteWithin low high noted_event → NoteWithin (suc low) high (without low noted_event)
note_next low high None n = tt
note_next low high (Some event) n =
    elim (cases_Bool (nat_eq event low)) [
      | inl same ↦ rw same tt
      | inr apart ↦
          let ne : event ≢ low = λ same. absurd (cc (eq-eqb event low same, apart)) in
          let least : suc low ≤ event = omega (arith, ne, n.0) in
          rw apart (least, n.1)
    ]

none_noted : (n : ℕ) (noted_event : Option ℕ) → NoteWithin n n noted_event → noted_event ≡ None
none_noted n None noted_event = refl
none_noted n (Some event) noted_event = absurd (omega (arith, noted_event.0, noted_event.1))

pub base_noted : (events : List EventCfg) (noted_event : Option ℕ) → IsNoted events noted_event → NoteWithin 0 (length events) noted_event
base_noted events None n = tt
base_noted events (Some event) n = (omega arith, n)

recent_noted : (n : ℕ) (notable : Bool) (event : ℕ) (noted_event : Option ℕ) → event < n → NoteWithin 0 n noted_event → NoteWithin 0 n (recent_after notable event noted_event)
recent_noted n true event noted_event less within = (omega arith, less)
recent_noted n false event noted_event less within = within

first_noted : (n : ℕ) (notable : Bool) (event : ℕ) (noted_event : Option ℕ) → event < n → NoteWithin 0 n noted_event → NoteWithin 0 n (first_after notable event noted_event)
first_noted n true event None less within = (omega arith, less)
first_noted n true event (Some other) less within = within
first_noted n false event noted_event less within = within

module _ (n : ℕ) (notable : Notable) (base : Option ℕ) (noted : NoteWithin 0 n base) where
  pub recent_within : (marks : Trace) → TraceBelow n marks → NoteWithin 0 n (recent notable base marks)
  recent_within [] b = noted
  recent_within (AllCleared ∷ marks) b = recent_within marks b
  recent_within (Of event Failed signals ∷ marks) b = recent_noted n (notable event marks) event (recent notable base marks) b.0 (recent_within marks b.1)
  recent_within (Of event Clear signals ∷ marks) b = note_without 0 n event (recent notable base marks) (recent_within marks b.1)
  recent_within (Of event Passed signals ∷ marks) b = recent_within marks b.1
  recent_within (Of event Cycle signals ∷ marks) b = recent_within marks b.1
  recent_within (Of event Aged signals ∷ marks) b = recent_within marks b.1
  recent_within (Of event Displaced signals ∷ marks) b = recent_within marks b.1
  recent_within (Of event Added signals ∷ marks) b = recent_within marks b.1
  recent_within (Of event Refused signals ∷ marks) b = recent_within marks b.1

  pub first_within : (marks : Trace) → TraceBelow n marks → NoteWithin 0 n (first notable base marks)
  first_within [] b = noted
  first_within (AllCleared ∷ marks) b = first_within marks b
  first_within (Of event Failed signals ∷ marks) b = first_noted n (notable event marks) event (first notable base marks) b.0 (first_within marks b.1)
  first_within (Of event Clear signals ∷ marks) b = note_without 0 n event (first notable base marks) (first_within marks b.1)
  first_within (Of event Passed signals ∷ marks) b = first_within marks b.1
  first_within (Of event Cycle signals ∷ marks) b = first_within marks b.1
  first_within (Of event Aged signals ∷ marks) b = first_within marks b.1
  first_within (Of event Displaced signals ∷ marks) b = first_within marks b.1
  first_within (Of event Added signals ∷ marks) b = first_within marks b.1
  first_within (Of event Refused signals ∷ marks) b = first_within marks b.1

-- ---- a clear of each event in order

abbrev pub all_cleared : List ℕ → ℕ → Trace → Trace
all_cleared sent zero marks = marks
all_cleared sent (suc n) marks = Of n Clear sent ∷ all_cleared sent n marks

cleared_holders : (life : Start) (sent : List ℕ) (high n : ℕ) (marks : Trace) → AllWithin 0 high (holders life marks) → AllWithin n high (holders life (all_cleared sent n marks))
cleared_holders life sent high zero marks all = all
cleared_holders life sent high (suc n) marks all = within_next n high (holders life (all_cleared sent n marks)) (cleared_holders life sent high n marks all)

cleared_recent : (notable : Notable) (base : Option ℕ) (sent : List ℕ) (high n : ℕ) (marks : Trace) → NoteWithin 0 high (recent notable base marks) →
    NoteWithin n high (recent notable base (all_cleared sent n marks))
cleared_recent notable base sent high zero marks noted_event = noted_event
cleared_recent notable base sent high (suc n) marks noted_event = note_next n high (recent notable base (all_cleared sent n marks)) (cleared_recent notable base sent high n marks noted_event)

cleared_first : (notable : Notable) (base : Option ℕ) (sent : List ℕ) (high n : ℕ) (marks : Trace) → NoteWithin 0 high (first notable base marks) →
    NoteWithin n high (first notable base (all_cleared sent n marks))
cleared_first notable base sent high zero marks noted_event = noted_event
cleared_first notable base sent high (suc n) marks noted_event = note_next n high (first notable base (all_cleared sent n marks)) (cleared_first notable base sent high n marks noted_event)

-- An event after those that were cleared.
later_marks : (event : ℕ) (sent : List ℕ) (n : ℕ) (marks : Trace) → n ≤ event → marks_of event (all_cleared sent n marks) ≡ marks_of event marks
later_marks event sent zero marks h = refl
later_marks event sent (suc n) marks h = rw (ne_eqb n event (λ same. absurd (omega (arith, h, same)))) (later_marks event sent n marks (omega (arith, h)))

cleared_marks : (event : ℕ) (sent : List ℕ) (n : ℕ) (marks : Trace) → event < n → marks_of event (all_cleared sent n marks) ≡ Clear ∷ marks_of event marks
cleared_marks event sent zero marks h = absurd (omega (arith, h))
cleared_marks event sent (suc n) marks h =
    elim (cases_Bool (nat_eq n event)) [
      | inl same ↦
          let at : n ≡ event = eqb-true n event same in
          rw same (ap (λ past. Clear ∷ past) (later_marks event sent n marks (omega (arith, at))))
      | inr apart ↦
          let ne : n ≢ event = λ same. absurd (cc (eq-eqb n event same, apart)) in
          rw apart (cleared_marks event sent n marks (omega (arith, ne, h)))
    ]

-- The same at each number.
map_below-replicate : (f : ℕ → EventState) (state : EventState) (n : ℕ) → ((event : ℕ) → event < n → f event ≡ state) → map f (below n) ≡ replicate n state
map_below-replicate f state zero each = refl
map_below-replicate f state (suc n) each =
    let one : n + 1 ≡ suc n = omega arith in
    map-append f (below n) (n ∷ [])
    ∙ ap (λ xs. xs ++ f n ∷ []) (map_below-replicate f state n (λ event less. each event (omega (arith, less))))
    ∙ ap (λ x. replicate n state ++ x ∷ []) (each n (omega arith))
    ∙ replicate-append-replicate n 1 state
    ∙ ap (λ k. replicate k state) one

-- ---- the call

-- Each event takes a clear.
clear_part : (life : Start) (past : History) (op : Op) (event : ℕ) (marks : Trace) → cleared_dtc op ≡ Some all_dtcs → event_part life past op event marks ≡ Of event Clear (signals past) ∷ marks
clear_part life past (ops.Request from bytes) event marks e = rw e refl
clear_part life past (ops.Signal index value) event marks e = absurd (cc)
clear_part life past (ops.Enable condition fulfilled) event marks e = absurd (cc)
clear_part life past (ops.Report of report) event marks e = absurd (cc)
clear_part life past (ops.Tick ticks) event marks e = absurd (cc)
clear_part life past (ops.Cycle cycle) event marks e = absurd (cc)
clear_part life past (ops.Show of) event marks e = absurd (cc)
clear_part life past ops.Snapshot event marks e = absurd (cc)
clear_part life past (ops.Saved generation) event marks e = absurd (cc)

clear_parts : (life : Start) (past : History) (op : Op) (n : ℕ) (marks : Trace) → cleared_dtc op ≡ Some all_dtcs → in_order (event_part life past op) n marks ≡ all_cleared (signals past) n marks
clear_parts life past op zero marks e = refl
clear_parts life past op (suc n) marks e =
    ap (event_part life past op n) (clear_parts life past op n marks e) ∙ clear_part life past op n (all_cleared (signals past) n marks) e

clear_trace : (life : Start) (past : History) (op : Op) → cleared_dtc op ≡ Some all_dtcs → trace life (op ∷ past) ≡ AllCleared ∷ all_cleared (signals past) (count life) (trace life past)
clear_trace life past op e =
    ap (λ dtc. with_clear dtc (in_order (event_part life past op) (count life) (trace life past))) e
    ∙ ap (λ marks. AllCleared ∷ marks) (clear_parts life past op (count life) (trace life past) e)

module _ (life : Start) (fits : Fits life.config life.base) (sent : List ℕ) (marks : Trace) (b : TraceBelow (count life) marks) where
  first_is : (notable : Notable) (base : Option ℕ) → IsNoted life.config.events.items base → first notable base (AllCleared ∷ all_cleared sent (count life) marks) ≡ None
  first_is notable base noted =
      none_noted (count life) _ (cleared_first notable base sent (count life) (count life) marks (first_within (count life) notable base (base_noted life.config.events.items base noted) marks b))

  recent_is : (notable : Notable) (base : Option ℕ) → IsNoted life.config.events.items base → recent notable base (AllCleared ∷ all_cleared sent (count life) marks) ≡ None
  recent_is notable base noted =
      none_noted (count life) _ (cleared_recent notable base sent (count life) (count life) marks (recent_within (count life) notable base (base_noted life.config.events.items base noted) marks b))

  holders_are : holders life (AllCleared ∷ all_cleared sent (count life) marks) ≡ []
  holders_are = none_within (count life) _ (cleared_holders life sent (count life) (count life) marks (holders_within life fits marks b))

  state_is : (event : ℕ) → event < count life → state_at life (AllCleared ∷ all_cleared sent (count life) marks) event ≡ start_state
  state_is event within = rw (cleared_marks event sent (count life) marks within) refl

  cleared_saved : saved life (AllCleared ∷ all_cleared sent (count life) marks) ≡ initial_state life.config
  cleared_saved =
      let now = AllCleared ∷ all_cleared sent (count life) marks in
      let states = map_below-replicate (state_at life now) start_state (count life) state_is in
      let held = ap (map (λ event. entry_of life event now)) holders_are in
      let ff = first_is (is_entering_failure life) life.base.first_failed fits.first_failed in
      let fc = first_is (is_confirming_failure life) life.base.first_confirmed fits.first_confirmed in
      let rf = recent_is (is_entering_failure life) life.base.recent_failed fits.recent_failed in
      let rc = recent_is (is_confirming_failure life) life.base.recent_confirmed fits.recent_confirmed in
      λ i. record {
        events = record { items = states i };
        entries = record { items = held i };
        overflow = false;
        first_failed = ff i;
        first_confirmed = fc i;
        recent_failed = rf i;
        recent_confirmed = rc i;
      }

pub clear_of_all_leaves_first_state : ClearOfAllLeavesFirstState
clear_of_all_leaves_first_state life past op fits e =
    ap (saved life) (clear_trace life past op e) ∙ cleared_saved life fits (signals past) (trace life past) (trace_below life fits past)
