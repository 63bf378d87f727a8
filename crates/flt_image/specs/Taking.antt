-- What a block that is read leaves of a state.
use Rattle.std.specs.Prelude.{◌≡◌, ℕ, ◌<◌, ◌≤◌, Bool, false, IsTrue, IsFalse, List, [], map, length, slice_index_or, Option, Some, None}
use Rattle.std.specs.List.{range_with_len}
use Rattle.flt_config.specs.declared.config.Config.{Config}
use Rattle.flt_config.specs.declared.persist.Persist.{Persist}
use Rattle.flt_config.specs.declared.persist.EventState.{EventState}
use Rattle.flt_config.specs.Durable.{start_state, IsNoted}
use Rattle.flt_store_model.specs.Reading.{state_from}

-- True and the state with the part, where there is one; false and the state as it was, where there is none.
abbrev pub TakesIn : Option Persist → Bool → Persist → Persist → Type 0
TakesIn None result before after = IsFalse result × (after ≡ before)
TakesIn (Some state) result before after = IsTrue result × (after ≡ state)

-- A state that holds nothing: what a summary is read into.
abbrev pub no_state : Persist
no_state =
    record {
      events = record { items = [] };
      entries = record { items = [] };
      overflow = false;
      first_failed = None;
      first_confirmed = None;
      recent_failed = None;
      recent_confirmed = None;
    }

-- A state with what the summary of another one says.
abbrev pub summed_up : Persist → Persist → Persist
summed_up read p =
    record p {
      overflow = read.overflow;
      entries = read.entries;
      first_failed = read.first_failed;
      first_confirmed = read.first_confirmed;
      recent_failed = read.recent_failed;
      recent_confirmed = read.recent_confirmed;
    }

-- The entries are within the memory, and the noted events are configured.
pub record IsSummaryOf (c : Config) (p : Persist) : Type 0 where
  pub room : length p.entries.items ≤ c.memory
  pub first_failed : IsNoted c.events.items p.first_failed
  pub first_confirmed : IsNoted c.events.items p.first_confirmed
  pub recent_failed : IsNoted c.events.items p.recent_failed
  pub recent_confirmed : IsNoted c.events.items p.recent_confirmed

-- The first states of a block.
abbrev pub block_states : List ℕ → ℕ → List EventState
block_states held count = map (state_from held) (range_with_len 0 count)

-- The clean counts leave room for the bit beside them.
abbrev pub HaveShortCounts : List EventState → Type 0
HaveShortCounts states = (event : ℕ) → (slice_index_or states event start_state).clean < 0x8000
