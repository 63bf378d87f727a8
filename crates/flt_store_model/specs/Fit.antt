-- Whether one part of a state fits a configuration, as a test.
use Rattle.std.specs.Prelude.{ℕ, ◌+◌, Bool, true, false, not, ◌&&◌, ◌==◌, nat_lt, nat_le, if◌then◌else◌, List, length, take, drop, position, bit_and, slice_index_or, slice_get, is_none, Option, Some, None}
use Rattle.std.specs.List.{list_all, range_with_len}
use Rattle.flt_config.specs.declared.config.Config.{Config}
use Rattle.flt_config.specs.declared.config.EventCfg.{EventCfg}
use Rattle.flt_config.specs.declared.persist.Persist.{Persist}
use Rattle.flt_config.specs.declared.persist.EventState.{EventState}
use Rattle.flt_config.specs.declared.persist.EntryState.{EntryState}
use Rattle.flt_config.specs.Durable.{start_state, is_of_event}
use Rattle.flt_config.specs.Ranges.{frame_width}
use Rattle.flt_store_model.specs.declared.part.Part.{Part}
use Rattle.flt_store_model.specs.declared.part.Part.TheVariants.{Summary, States, Entry}

-- A bit of the status byte, by its worth.
abbrev pub has_bit : ℕ → ℕ → Bool
has_bit status worth = not (bit_and status worth == 0)

-- The counts are in range; bit 7 is set if and only if the event is lit and not healed; it is lit only with bit 3 and an indicator.
unfoldable pub state_fits : EventCfg → EventState → Bool
state_fits event state =
    nat_le state.status 255 && nat_le state.failed 255 && nat_le state.clean 510
    && (if state.lit && nat_lt state.clean event.heal then has_bit state.status 128 else not (has_bit state.status 128))
    && (if state.lit then has_bit state.status 8 && event.indicator else true)

-- The state of an event, if there is such an event.
abbrev pub state_fits_at : Option EventCfg → EventState → Bool
state_fits_at None state = true
state_fits_at (Some event) state = state_fits event state

-- The states of this many events from this one on.
unfoldable pub states_fit : List EventCfg → List EventState → ℕ → ℕ → Bool
states_fit events states first count =
    list_all (λ place. state_fits_at (slice_get events (first + place)) (slice_index_or states (first + place) start_state)) (range_with_len 0 count)

-- The entry occurred, and both frames have the width of the event.
abbrev pub entry_fits_at : Option EventCfg → EntryState → Bool
entry_fits_at None entry = false
entry_fits_at (Some event) entry =
    nat_le 1 entry.occurrence && nat_le entry.occurrence 255
    && (length entry.first.items == frame_width event.dids.items) && (length entry.recent.items == frame_width event.dids.items)

-- No other entry is of this event.
abbrev pub is_alone : List EntryState → ℕ → ℕ → Bool
is_alone entries place event =
    is_none (position (is_of_event event) (take place entries)) && is_none (position (is_of_event event) (drop (place + 1) entries))

-- The entry at a position, if there is one, fits together with the others.
abbrev pub place_fits : List EventCfg → List EntryState → ℕ → Option EntryState → Bool
place_fits events entries place None = true
place_fits events entries place (Some entry) = entry_fits_at (slice_get events entry.event) entry && is_alone entries place entry.event

-- A noted event, if there is one, is configured.
abbrev pub note_fits : List EventCfg → Option ℕ → Bool
note_fits events None = true
note_fits events (Some event) = nat_lt event (length events)

-- The entries are within the memory, and the noted events are configured.
abbrev pub summary_fits : Config → Persist → Bool
summary_fits c p =
    nat_le (length p.entries.items) c.memory
    && note_fits c.events.items p.first_failed && note_fits c.events.items p.first_confirmed
    && note_fits c.events.items p.recent_failed && note_fits c.events.items p.recent_confirmed

-- A part of a state fits a configuration, together with the rest of the state.
abbrev pub part_fits : Config → Persist → Part → Bool
part_fits c p Summary = summary_fits c p
part_fits c p (States first) = states_fit c.events.items p.events.items first 16
part_fits c p (Entry place) = place_fits c.events.items p.entries.items place (slice_get p.entries.items place)
