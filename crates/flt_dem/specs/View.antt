-- What a tester may read of the events, as the manager has them.
use Rattle.std.specs.Prelude.{ℕ, ◌==◌, if◌then◌else◌, length, map, find, slice_get, unwrap_or, ℤ, Option}
use Rattle.flt_config.specs.declared.config.EventCfg.{EventCfg}
use Rattle.flt_config.specs.Durable.{start_state, is_of_event}
use Rattle.flt_model.specs.Start.{no_event}
use Rattle.flt_model.specs.Durable.{below}
use Rattle.flt_model.specs.Debounce.{detection_counter}
use Rattle.flt_model.specs.Response.{EventView, View}
use Rattle.flt_model.specs.declared.call.DebState.TheVariants.{Idle}
use Rattle.flt_dem.specs.declared.notes.Notes.{Notes}
use Rattle.flt_dem.specs.Manager.{Manager}

-- The configuration of an event.
abbrev pub rules_of : Manager → ℕ → EventCfg
rules_of manager event = unwrap_or (slice_get manager.durable.config.events.items event) no_event

-- The fault detection counter of an event.
abbrev pub detection_counter_of : Manager → ℕ → ℤ
detection_counter_of manager event = detection_counter (rules_of manager event).debounce (unwrap_or (slice_get manager.debounces event) Idle)

-- An event with its state, entry and fault detection counter.
abbrev pub event_seen : Manager → ℕ → EventView
event_seen manager event = record {
  dtc = (rules_of manager event).dtc;
  dids = (rules_of manager event).dids.items;
  state = unwrap_or (slice_get manager.durable.states event) start_state;
  entry = find (is_of_event event) manager.durable.memory.entries;
  counter = detection_counter_of manager event;
}

-- The noted event that a sub-function reads.
abbrev pub noted_at : Notes → ℕ → Option ℕ
noted_at notes sub =
    if sub == 0x0B then notes.first_failed
    else if sub == 0x0C then notes.first_confirmed
    else if sub == 0x0D then notes.recent_failed
    else notes.recent_confirmed

-- All events in order of number, and which of them are noted.
abbrev pub manager_view : Manager → View
manager_view manager = record {
  events = map (event_seen manager) (below (length manager.durable.config.events.items));
  noted = noted_at manager.durable.notes;
}
