-- What holds of the entries and of the saved state after every list of calls.
use Rattle.std.specs.Prelude.{◌≡◌, ℕ, ◌<◌, ◌⊎◌, ◌↔◌, slice_index, ◌≤◌, ◌==◌, Bool, true, false, if◌then◌else◌, IsTrue, List, [], ◌∷◌, length, map, AllPairs, Option, Some, None}
use Rattle.flt_config.specs.Validity.{IsValid}
use Rattle.flt_config.specs.Durable.{Fits}
use Rattle.flt_model.specs.Start.{Start, History}
use Rattle.flt_model.specs.Mark.{decided, Traced, Trace, Of}
use Rattle.flt_model.specs.Mark.Mark.{Added}
use Rattle.flt_model.specs.Entry.{has_entry, holders, is_among, worst, is_worse, IsWorse, gives_way}
use Rattle.flt_model.specs.declared.status.Rank.{Rank}
use Rattle.flt_model.specs.Trace.{trace}
use Rattle.flt_model.specs.Durable.{saved_after}

-- An event is among the holders if and only if it was added, and not removed since.
abbrev pub HoldersHaveEntries : Type 0
HoldersHaveEntries = (life : Start) (trace : Trace) (event : ℕ) →
    is_among event (holders life trace) ≡ has_entry life event trace

-- ---- which entry gives way

-- An entry is worse than another by its rank, or of the same rank and older.
abbrev pub IsWorseEntry : (ℕ → Rank) → List ℕ → ℕ → ℕ → Type 0
IsWorseEntry rank events i j =
    IsWorse (rank (slice_index events i)) (rank (slice_index events j))
    ⊎ ((rank (slice_index events i) ≡ rank (slice_index events j)) × (i < j))

-- No event is worse than the worst.
abbrev pub WorstIsUnique : Type 0
WorstIsUnique = (rank : ℕ → Rank) (events : List ℕ) (place : ℕ) → place < length events →
    ((k : ℕ) → k < length events → ¬ IsWorseEntry rank events k place) → worst rank events ≡ Some (slice_index events place)

-- An event of this priority number takes the place of an entry of this rank.
abbrev pub GivesWay : Rank → ℕ → Type 0
GivesWay rank priority = (priority < rank.priority) ⊎ ((priority ≡ rank.priority) × IsTrue rank.passive)

-- A rank is worse than another if and only if its number is greater, or equal and it alone is passive; and it gives way to an event if
-- and only if the event's number is smaller, or equal and it is passive.
pub record AreCompared (rank other : Rank) (priority : ℕ) : Type 0 where
  pub worse : (is_worse rank other ≡ true) ↔ IsWorse rank other
  pub gives_way : (gives_way rank priority ≡ true) ↔ GivesWay rank priority

abbrev pub RanksAreCompared : Type 0
RanksAreCompared = (rank other : Rank) (priority : ℕ) → AreCompared rank other priority

-- ---- the order of the entries

-- Of two events the one that is added is put after the other.
abbrev pub behind_row : ℕ → ℕ → Trace → Traced → Option Bool
behind_row first second trace (Of event Added signals) =
    if event == second then Some true else if event == first then Some false else None
behind_row first second trace _ = None

-- The second of two events is after the first in a list.
abbrev pub is_behind : ℕ → ℕ → List ℕ → Bool
is_behind first second [] = false
is_behind first second (event ∷ events) = if event == first then is_among second events else is_behind first second events

-- The second event was added after the first, or was after it at power-up if neither was added since.
abbrev pub was_added_later : Start → Trace → ℕ → ℕ → Bool
was_added_later life trace first second =
    decided (behind_row first second) (is_behind first second (map (λ entry. entry.event) life.base.entries.items)) trace

-- The entries are in the order in which they were last added.
abbrev pub AreInOrder : Start → Trace → Type 0
AreInOrder life trace = AllPairs (λ first second. was_added_later life trace first second ≡ true) (holders life trace)

abbrev pub EntriesStandAsAdded : Type 0
EntriesStandAsAdded = (life : Start) (past : History) → Fits life.config life.base → AreInOrder life (trace life past)

-- ---- how many they are

-- Each event once.
abbrev pub Distinct : List ℕ → Type 0
Distinct [] = Unit {0}
Distinct (event ∷ events) = (is_among event events ≡ false) × Distinct events

-- The entries are of distinct events, and at most as many as the memory has room for.
pub record IsWithinMemory (life : Start) (marks : Trace) : Type 0 where
  pub distinct : Distinct (holders life marks)
  pub room : length (holders life marks) ≤ life.config.memory

-- This holds for the entries of a base that fits.
abbrev pub FittingBaseHasRoom : Type 0
FittingBaseHasRoom = (life : Start) → Fits life.config life.base → IsWithinMemory life []

-- The calls preserve it.
abbrev pub EntriesKeepRoom : Type 0
EntriesKeepRoom = (life : Start) (past : History) → IsWithinMemory life [] → IsWithinMemory life (trace life past)

-- From a state that fits the configuration, every list of calls leaves one that fits it.
abbrev pub SavedStatesFit : Type 0
SavedStatesFit = (life : Start) (past : History) → IsValid life.config → Fits life.config life.base → Fits life.config (saved_after life past)
