-- What a request does to the event manager, and the event that it names.
use Rattle.std.specs.Prelude.{◌≡◌, ℕ, ◌<◌, List, ◌∷◌, length, find, Option, Some}
use Rattle.flt_model.specs.Start.{Start, History}
use Rattle.flt_model.specs.Happening.{cleared_dtc}
use Rattle.flt_model.specs.Request.{RequestBytes}
use Rattle.flt_model.specs.Response.{is_of_dtc}
use Rattle.flt_model.specs.declared.call.Op.TheVariants as ops
use Rattle.flt_dem.specs.Manager.{Manager, StandsFor}
use Rattle.flt_dem.specs.View.{event_seen, manager_view}

-- The manager takes each request of a tester that clears this DTC, or each that clears nothing.
abbrev pub TakesClearOf : Option ℕ → Manager → Manager → Type 0
TakesClearOf dtc old new =
    (life : Start) (past : History) (tester : ℕ) (sent : RequestBytes) → cleared_dtc (ops.Request tester sent) ≡ dtc →
    StandsFor life past old → StandsFor life (ops.Request tester sent ∷ past) new

-- The manager takes the request of these bytes, whichever tester sends it.
abbrev pub TakesBytes : List ℕ → Manager → Manager → Type 0
TakesBytes bytes old new =
    (life : Start) (past : History) (tester : ℕ) (sent : RequestBytes) → sent.items ≡ bytes →
    StandsFor life past old → StandsFor life (ops.Request tester sent ∷ past) new

-- The event is configured, and is the first with this DTC of the events that a tester sees.
abbrev pub IsEventOf : ℕ → Manager → ℕ → Type 0
IsEventOf dtc manager event =
    (event < length manager.durable.config.events.items) × (find (is_of_dtc dtc) (manager_view manager).events ≡ Some (event_seen manager event))
