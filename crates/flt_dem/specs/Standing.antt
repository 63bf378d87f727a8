-- What the durable part of the event manager stands for: a base and the marks of all events after it.
use Rattle.std.specs.Prelude.{◌≡◌, ◌≢◌, ℕ, ◌<◌, List, ◌∷◌, length, Some, slice_get, option_map, unwrap_or}
use Rattle.flt_config.specs.declared.persist.EventState.{EventState}
use Rattle.flt_model.specs.Start.{Start, count}
use Rattle.flt_model.specs.Mark.{Trace, Of}
use Rattle.flt_model.specs.Mark.Mark.{Displaced, Added, Refused, Clear}
use Rattle.flt_model.specs.Durable.{state_at}
use Rattle.flt_model.specs.Entry.{entries, overflow, has_entry}
use Rattle.flt_model.specs.Answer.{entry_where}
use Rattle.flt_model.specs.Noted.{is_entering_failure, is_confirming_failure, recent, first}
use Rattle.flt_memory.specs.Memory.{Memory}
use Rattle.flt_memory.specs.declared.memory.Stored.{Stored}
use Rattle.flt_memory.specs.declared.memory.Stored.TheVariants as outcomes
use Rattle.flt_dem.specs.declared.notes.Notes.{Notes}
use Rattle.flt_dem.specs.DurablePart.{DurablePartView, with_memory, without_entry}

-- Each event's state is what the marks make of it.
pub record StatesStand (life : Start) (marks : Trace) (states : List EventState) : Type 0 where
  pub one_each : length states ≡ count life
  pub each : (event : ℕ) → event < count life → slice_get states event ≡ Some (state_at life marks event)

-- The entries are what the marks make of them.
pub record MemoryStands (life : Start) (marks : Trace) (memory : Memory) : Type 0 where
  pub entries : memory.entries ≡ entries life marks
  pub overflow : memory.overflow ≡ overflow life marks

-- The events that the marks note.
abbrev pub notes_of : Start → Trace → Notes
notes_of life marks = record {
  first_failed = first (is_entering_failure life) life.base.first_failed marks;
  first_confirmed = first (is_confirming_failure life) life.base.first_confirmed marks;
  recent_failed = recent (is_entering_failure life) life.base.recent_failed marks;
  recent_confirmed = recent (is_confirming_failure life) life.base.recent_confirmed marks;
}

-- All of it is what the marks make of it, under the life's configuration.
pub record DurablePartStands (life : Start) (marks : Trace) (durable : DurablePartView) : Type 0 where
  pub config : life.config ≡ durable.config
  pub states_stand : StatesStand life marks durable.states
  pub memory_stands : MemoryStands life marks durable.memory
  pub notes : durable.notes ≡ notes_of life marks

-- The marks of what became of an event that was stored.
abbrev pub with_outcome : ℕ → List ℕ → Stored → Trace → Trace
with_outcome event signals outcomes.Updated trace = trace
with_outcome event signals outcomes.Added trace = Of event Added signals ∷ trace
with_outcome event signals (outcomes.Displaced other) trace = Of event Added signals ∷ Of other Displaced signals ∷ trace
with_outcome event signals outcomes.Refused trace = Of event Refused signals ∷ trace

-- The event that gave way, if one did, is below a number.
abbrev pub IsDisplacedBelow : ℕ → Stored → Type 0
IsDisplacedBelow count (outcomes.Displaced other) = other < count
IsDisplacedBelow count _ = Unit {0}

-- The event that gave way, if one did, is another one.
abbrev pub IsNotDisplaced : ℕ → Stored → Type 0
IsNotDisplaced event (outcomes.Displaced other) = event ≢ other
IsNotDisplaced event _ = Unit {0}

-- If the durable part stands for a base and marks before, it stands for them and more marks after.
abbrev pub Bears : (Start → Trace → Trace) → DurablePartView → DurablePartView → Type 0
Bears more old new = (life : Start) (marks : Trace) → DurablePartStands life marks old → DurablePartStands life (more life marks) new

-- It bears the clear of an event whatever entries it holds, where it gives up the event's.
abbrev pub BearsClear : ℕ → DurablePartView → DurablePartView → Type 0
BearsClear event old new =
    (held : Memory) (signals : List ℕ) → Bears (λ life marks. Of event Clear signals ∷ marks) (with_memory held old)
    (with_memory (without_entry event held) new)

-- The states follow what became of an event that was stored.
abbrev pub StatesFollow : Stored → List EventState → List EventState → Type 0
StatesFollow outcome old new =
    (life : Start) (event : ℕ) (signals : List ℕ) (marks : Trace) → StatesStand life marks old → StatesStand life (with_outcome event signals outcome marks) new

-- How often an event occurred that has an entry, and 0 without an entry.
abbrev pub occurrence_of : ℕ → Start → Trace → ℕ
occurrence_of event life marks = unwrap_or (option_map (λ entry. entry.occurrence) (entry_where life event marks (has_entry life event marks))) 0
