-- What happens to one event, as far as its durable state goes, and how flags and counts follow from it (this profile).
use Rattle.std.specs.Prelude.{ℕ, ◌+◌, ◌==◌, Bool, true, false, if◌then◌else◌, List, [], ◌∷◌, Option, unwrap_or}

-- What happens to one event, as far as its durable state goes.
pub data Mark : Type 0 where
  -- A failed or passed test result.
  Failed : Mark
  Passed : Mark
  -- The end of an operation cycle, and the start of the next.
  Cycle : Mark
  -- The tester's clear.
  Clear : Mark
  -- Enough clean cycles since the last failure.
  Aged : Mark
  -- The event's entry gave way to another event's.
  Displaced : Mark
  -- The event got an entry.
  Added : Mark
  -- The event found no room for an entry.
  Refused : Mark

-- The marks of an event, newest first.
abbrev pub Past : Type 0
Past = List Mark

-- What a mark or a call decides, given those before it: Some does, and None leaves it as it was.
abbrev pub Row : Type 0
Row = Past → Mark → Option Bool

-- Something is as the last that decides it says, and as in the base if none does.
abbrev pub decided : {X A : Type 0} → (List X → X → Option A) → A → List X → A
decided row base [] = base
decided row base (x ∷ past) = unwrap_or (row past x) (decided row base past)

-- Which marks, given the marks before them.
abbrev pub Kind : Type 0
Kind = Past → Mark → Bool

-- The number with which a mark restarts a count: Some does, and None does not.
abbrev pub Restart : Type 0
Restart = Past → Mark → Option ℕ

-- One more, if it counts.
abbrev pub one_more_if : Bool → ℕ → ℕ
one_more_if counts n = if counts then n + 1 else n

-- The number of marks of a kind since the count was last restarted; if it never was, they are added to the base's number.
abbrev pub count_since : Restart → Kind → ℕ → Past → ℕ
count_since restart counted base [] = base
count_since restart counted base (mark ∷ past) =
    unwrap_or (restart past mark) (one_more_if (counted past mark) (count_since restart counted base past))

-- ---- the marks of all events

-- A mark among those of all events.
pub data Traced : Type 0 where
  -- A mark of an event, with the signals at its moment.
  Of : ℕ → Mark → List ℕ → Traced
  -- All events were cleared at once.
  AllCleared : Traced

-- The marks of all events since power-up, newest first.
abbrev pub Trace : Type 0
Trace = List Traced

-- A mark, if it is of the event that is looked at.
abbrev pub own : Bool → Mark → Past → Past
own true mark past = mark ∷ past
own false mark past = past

-- The marks of one event.
abbrev pub marks_of : ℕ → Trace → Past
marks_of event [] = []
marks_of event (Of other mark signals ∷ trace) = own (other == event) mark (marks_of event trace)
marks_of event (AllCleared ∷ trace) = marks_of event trace
