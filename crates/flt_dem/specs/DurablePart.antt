-- The durable part of the event manager, as a contract sees it.
use Rattle.std.specs.Prelude.{◌≡◌, ◌≢◌, ◌<◌, ◌≤◌, ℕ, List, length, All, None, not, filter, find, slice_get}
use Rattle.flt_config.specs.declared.config.Config.{Config}
use Rattle.flt_config.specs.declared.persist.EventState.{EventState}
use Rattle.flt_config.specs.Durable.{is_of_event}
use Rattle.flt_memory.specs.Memory.{Memory}
use Rattle.flt_dem.specs.declared.notes.Notes.{Notes}

-- The configuration, the state of each event by its number, the entries and the noted events.
pub record DurablePartView : Type 0 where
  pub config : Config
  pub states : List EventState
  pub memory : Memory
  pub notes : Notes

-- One state for each event, and entries of events that are configured, at most as many as the memory holds.
pub record AreOfConfig (config : Config) (states : List EventState) (memory : Memory) : Type 0 where
  pub one_each : length states ≡ length config.events.items
  pub within : All (λ entry. entry.event < length config.events.items) memory.entries
  pub room : length memory.entries ≤ config.memory

-- The memory without the entry of an event.
abbrev pub without_entry : ℕ → Memory → Memory
without_entry event memory = record memory { entries = filter (λ entry. not (is_of_event event entry)) memory.entries }

-- The durable part with these entries in place of its own.
abbrev pub with_memory : Memory → DurablePartView → DurablePartView
with_memory memory durable = record durable { memory = memory }

-- What a list has of the other events is as before.
abbrev pub KeepsOthers : {A : Type 0} → ℕ → List A → List A → Type 0
KeepsOthers event old new = (other : ℕ) → other ≢ event → slice_get new other ≡ slice_get old other

-- The states of the other events without an entry are as before.
abbrev pub KeepsOthersWithoutEntry : ℕ → DurablePartView → DurablePartView → Type 0
KeepsOthersWithoutEntry event old new =
    (other : ℕ) → other ≢ event → find (is_of_event other) old.memory.entries ≡ None → slice_get new.states other ≡ slice_get old.states other
