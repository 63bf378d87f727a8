-- The events as a contract sees them: the durable part, and the debouncing of each event.
use Rattle.std.specs.Prelude.{◌≡◌, ℕ, ℤ, List, length, slice_get, unwrap_or}
use Rattle.flt_config.specs.declared.config.Config.{Config}
use Rattle.flt_model.specs.Start.{no_event}
use Rattle.flt_model.specs.Debounce.{detection_counter}
use Rattle.flt_model.specs.declared.call.DebState.{DebState}
use Rattle.flt_model.specs.declared.call.DebState.TheVariants.{Idle}
use Rattle.flt_memory.specs.Memory.{Memory}
use Rattle.flt_dem.specs.DurablePart.{DurablePartView, with_memory}
use Rattle.flt_dem.specs.Debounces.{AreOfKind}

-- The durable part, and one debouncing for each event by its number.
pub record EventsView : Type 0 where
  pub durable : DurablePartView
  pub debounces : List DebState

-- One debouncing for each event, of its kind.
pub record IsOfConfig (config : Config) (debounces : List DebState) : Type 0 where
  pub one_each : length debounces ≡ length config.events.items
  pub kinds : AreOfKind config.events.items debounces

-- The events with these entries in place of theirs.
abbrev pub holding : Memory → EventsView → EventsView
holding memory events = record events { durable = with_memory memory events.durable }

-- The fault detection counter of an event.
abbrev pub counter_at : EventsView → ℕ → ℤ
counter_at events event =
    detection_counter (unwrap_or (slice_get events.durable.config.events.items event) no_event).debounce (unwrap_or (slice_get events.debounces event) Idle)
