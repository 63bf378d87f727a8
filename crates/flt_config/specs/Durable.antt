-- The state that survives a power cut: what it is at first, and when it fits a configuration.
use Rattle.std.specs.Prelude.{◌≡◌, ◌≢◌, ℕ, ◌<◌, ◌≤◌, ◌↔◌, IsTrue, false, Bool, ◌==◌, List, [], length, replicate, None, IfSome, Option, All, AllPairs, slice_index_or, IsBitSet}
use Rattle.flt_config.specs.declared.config.Config.{Config}
use Rattle.flt_config.specs.declared.config.EventCfg.{EventCfg}
use Rattle.flt_config.specs.declared.persist.Persist.{Persist}
use Rattle.flt_config.specs.declared.persist.EventState.{EventState}
use Rattle.flt_config.specs.declared.persist.EntryState.{EntryState}
use Rattle.flt_config.specs.Ranges.{frame_width}
use Rattle.flt_config.specs.Validity.{IsFromTo}

-- An event that was not tested since it was cleared: only bits 4 and 6 are set (ISO 14229-1, status bits).
abbrev pub start_state : EventState
start_state = record { status = 80; failed = 0; clean = 0; lit = false }

-- Each event in its start state, and nothing else.
abbrev pub initial_state : Config → Persist
initial_state config =
    record {
      events = record { items = replicate (length config.events.items) start_state };
      entries = record { items = [] };
      overflow = false;
      first_failed = None;
      first_confirmed = None;
      recent_failed = None;
      recent_confirmed = None;
    }

-- The warning indicator is requested if and only if it is lit and not healed, and only a confirmed event with an indicator is lit.
pub record IsStateOf (event : EventCfg) (state : EventState) : Type 0 where
  pub status : state.status ≤ 255
  pub failed : state.failed ≤ 255
  pub clean : state.clean ≤ 510
  pub warning : IsBitSet state.status 7 ↔ (IsTrue state.lit × (state.clean < event.heal))
  pub lit : IsTrue state.lit → IsBitSet state.status 3 × IsTrue event.indicator

-- One state for each event.
pub record AreStatesOf (events : List EventCfg) (states : List EventState) : Type 0 where
  pub one_each : length states ≡ length events
  pub fitting : (k : ℕ) (event : EventCfg) (state : EventState) → k < length events
      → IsStateOf (slice_index_or events k event) (slice_index_or states k state)

-- An entry of one of the events, with frames of its width.
pub record IsEntryOf (events : List EventCfg) (entry : EntryState) : Type 0 where
  pub event : entry.event < length events
  pub occurrence : IsFromTo 1 255 entry.occurrence
  pub first : (d : EventCfg) → length entry.first.items ≡ frame_width (slice_index_or events entry.event d).dids.items
  pub recent : (d : EventCfg) → length entry.recent.items ≡ frame_width (slice_index_or events entry.event d).dids.items

-- An entry is that of an event.
abbrev pub is_of_event : ℕ → EntryState → Bool
is_of_event event entry = entry.event == event

-- Two entries are of different events.
abbrev pub IsOfOtherEvent : EntryState → EntryState → Type 0
IsOfOtherEvent first second = first.event ≢ second.event

-- A noted event, if there is one, is configured.
abbrev pub IsNoted : List EventCfg → Option ℕ → Type 0
IsNoted events note = IfSome note (λ event. event < length events)

-- A durable state fits a configuration: states of its events, entries within its memory, and notes of its events.
pub record Fits (config : Config) (state : Persist) : Type 0 where
  pub states : AreStatesOf config.events.items state.events.items
  pub room : length state.entries.items ≤ config.memory
  pub entries : All (IsEntryOf config.events.items) state.entries.items
  pub distinct : AllPairs IsOfOtherEvent state.entries.items
  pub first_failed : IsNoted config.events.items state.first_failed
  pub first_confirmed : IsNoted config.events.items state.first_confirmed
  pub recent_failed : IsNoted config.events.items state.recent_failed
  pub recent_confirmed : IsNoted config.events.items state.recent_confirmed
