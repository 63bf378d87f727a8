-- The entries of the fault memory, as the marks of all events decide them (AUTOSAR Dem, in outline; which entry gives
-- way is this profile's).
use Rattle.std.specs.Prelude.{◌≡◌, ◌<◌, ◌⊎◌, IsTrue, IsFalse, ℕ, ◌+◌, min, nat_lt, ◌==◌, Bool, true, false, not, ◌&&◌, ◌||◌, if◌then◌else◌, List, [], ◌∷◌, ◌++◌, map, filter, find, Option, Some, None, unwrap_or, option_map, is_some}
use Rattle.std.specs.List.{list_any}
use Rattle.flt_config.specs.declared.persist.EntryState.{EntryState}
use Rattle.flt_config.specs.Durable.{is_of_event}
use Rattle.flt_model.specs.declared.status.Rank.{Rank}
use Rattle.flt_model.specs.Start.{Start, event_of, base_of}
use Rattle.flt_model.specs.Mark.{Mark, Row, Restart, Kind, decided, count_since, Traced, Trace, Of, AllCleared, marks_of}
use Rattle.flt_model.specs.Mark.Mark.{Failed, Clear, Aged, Displaced, Added, Refused}
use Rattle.flt_model.specs.Status.{test_failed, enters}
use Rattle.flt_model.specs.Frame.{frame_bytes}

-- ---- which events have an entry

-- The entry that an event had at power-up.
abbrev pub base_entry : Start → ℕ → Option EntryState
base_entry life event = find (is_of_event event) life.base.entries.items

-- Added gives an entry, and Aged, Displaced and Clear remove it.
abbrev pub entry_row : Row
entry_row past Added = Some true
entry_row past Aged = Some false
entry_row past Displaced = Some false
entry_row past Clear = Some false
entry_row past _ = None

-- The event has an entry: it was added, and not removed since.
abbrev pub has_entry : Start → ℕ → Trace → Bool
has_entry life event trace = decided entry_row (is_some (base_entry life event)) (marks_of event trace)

-- ---- in which order

-- An event is another one.
abbrev pub is_other : ℕ → ℕ → Bool
is_other event other = not (other == event)

-- The event is one of these.
abbrev pub is_among : ℕ → List ℕ → Bool
is_among event events = list_any (λ other. other == event) events

-- An event that is added becomes the last, and one that is removed leaves the list.
abbrev pub holders_after : Mark → ℕ → List ℕ → List ℕ
holders_after Added event events = events ++ event ∷ []
holders_after Aged event events = filter (is_other event) events
holders_after Displaced event events = filter (is_other event) events
holders_after Clear event events = filter (is_other event) events
holders_after _ event events = events

-- The events with an entry, in the order in which they were added.
abbrev pub holders : Start → Trace → List ℕ
holders life [] = map (λ entry. entry.event) life.base.entries.items
holders life (Of event mark signals ∷ trace) = holders_after mark event (holders life trace)
holders life (AllCleared ∷ trace) = holders life trace

-- ---- which entry gives way

-- The rank of an event: its priority number, and whether its last test did not fail.
abbrev pub rank_of : Start → Trace → ℕ → Rank
rank_of life trace event = record {
  priority = (event_of life event).priority;
  passive = not (test_failed (base_of life event) (marks_of event trace));
}

-- The greater number is worse, and of equal numbers the passive one.
abbrev pub is_worse : Rank → Rank → Bool
is_worse a b = nat_lt b.priority a.priority || ((a.priority == b.priority) && (a.passive && not b.passive))

-- The same as a fact.
abbrev pub IsWorse : Rank → Rank → Type 0
IsWorse a b = (b.priority < a.priority) ⊎ ((a.priority ≡ b.priority) × IsTrue a.passive × IsFalse b.passive)

-- The worse of two, and of equals the older one.
abbrev pub worse_of : (ℕ → Rank) → ℕ → Option ℕ → ℕ
worse_of rank older None = older
worse_of rank older (Some newer) = if is_worse (rank newer) (rank older) then newer else older

-- The event of the worst entry.
abbrev pub worst : (ℕ → Rank) → List ℕ → Option ℕ
worst rank [] = None
worst rank (event ∷ events) = Some (worse_of rank event (worst rank events))

-- An entry gives way to an event of a smaller number, and to one of an equal number if it is passive.
abbrev pub gives_way : Rank → ℕ → Bool
gives_way worst priority = nat_lt priority worst.priority || ((worst.priority == priority) && worst.passive)

-- ---- the overflow flag

-- Displaced and Refused say that the memory was full, and a clear of all resets that.
abbrev pub overflow_row : Trace → Traced → Option Bool
overflow_row trace (Of event Displaced signals) = Some true
overflow_row trace (Of event Refused signals) = Some true
overflow_row trace AllCleared = Some false
overflow_row trace _ = None

-- Some event found the memory full since the last clear of all.
abbrev pub overflow : Start → Trace → Bool
overflow life trace = decided overflow_row life.base.overflow trace

-- ---- what an entry holds

-- An entry that is added counts from 1.
abbrev pub restarts_occurrence : Restart
restarts_occurrence past Added = Some 1
restarts_occurrence past _ = None

module _ (life : Start) (event : ℕ) where
  -- A failure that changes the test result.
  abbrev pub is_entering : Kind
  is_entering past Failed = enters (base_of life event) past
  is_entering past _ = false

  -- The occurrences that its entry counted at power-up.
  abbrev pub base_occurrence : ℕ
  base_occurrence = unwrap_or (option_map (λ entry. entry.occurrence) (base_entry life event)) 0

  -- How often the event occurred since its entry was added, at most 255.
  abbrev pub occurrence : Trace → ℕ
  occurrence trace = min 255 (count_since restarts_occurrence is_entering base_occurrence (marks_of event trace))

  -- The frame of the event at these signals.
  abbrev pub frame : List ℕ → List ℕ
  frame signals = frame_bytes (event_of life event).dids.items signals

  -- An entry that is added takes its first frame.
  abbrev pub first_row : Trace → Traced → Option (List ℕ)
  first_row trace (Of other Added signals) = if other == event then Some (frame signals) else None
  first_row trace _ = None

  -- Each failure that changes the test result captures the recent frame again.
  abbrev pub recent_row : Trace → Traced → Option (List ℕ)
  recent_row trace (Of other Failed signals) =
      if (other == event) && enters (base_of life event) (marks_of event trace) then Some (frame signals) else None
  recent_row trace _ = None

  -- The first frame that its entry had at power-up.
  abbrev pub base_first : List ℕ
  base_first = unwrap_or (option_map (λ entry. entry.first.items) (base_entry life event)) []

  -- The recent frame that its entry had at power-up.
  abbrev pub base_recent : List ℕ
  base_recent = unwrap_or (option_map (λ entry. entry.recent.items) (base_entry life event)) []

  -- The entry of the event, if it has one.
  abbrev pub entry_of : Trace → EntryState
  entry_of trace = record {
    event = event;
    occurrence = occurrence trace;
    first = record { items = decided first_row base_first trace };
    recent = record { items = decided recent_row base_recent trace };
  }

-- The entries, in the order in which they were added.
abbrev pub entries : Start → Trace → List EntryState
entries life trace = map (λ event. entry_of life event trace) (holders life trace)

-- ---- what storing an event does to its entry

-- A first entry of the event.
abbrev pub new_entry : ℕ → List ℕ → EntryState
new_entry event bytes = record { event = event; occurrence = 1; first = record { items = bytes }; recent = record { items = bytes } }

-- The entry after its event occurred once more.
abbrev pub updated : EntryState → List ℕ → EntryState
updated entry bytes = record entry { occurrence = min (entry.occurrence + 1) 255; recent = record { items = bytes } }
