-- The order in which a configuration is checked: ranges first, then DTCs, then the room.
use Rattle.std.specs.Prelude.{ℕ, nat_lt, Bool, true, false, List, [], ◌∷◌, ◌++◌, length, position, Option, Some, None, Result, Ok, Err}
use Rattle.flt_config.specs.declared.config.Config.{Config}
use Rattle.flt_config.specs.declared.config.EventCfg.{EventCfg}
use Rattle.flt_config.specs.declared.config.CfgFault.{CfgFault}
use Rattle.flt_config.specs.declared.config.CfgFault.TheVariants.{DtcTwice, NoRoom}
use Rattle.flt_config.specs.Ranges.{settings, ranges_result}
use Rattle.flt_config.specs.Validity.{has_dtc, needed_pages}

-- The first fault of two checks.
abbrev pub and_then : Result (Unit {0}) CfgFault → Result (Unit {0}) CfgFault → Result (Unit {0}) CfgFault
and_then (Ok done) next = next
and_then (Err fault) next = Err fault

-- An event of this number has the DTC of an earlier one.
abbrev pub fault_of_twice : Option ℕ → ℕ → Result (Unit {0}) CfgFault
fault_of_twice None second = Ok tt
fault_of_twice (Some first) second = Err (DtcTwice first second)

-- The first of these events whose DTC an event before it has, there or among those before them all.
unfoldable pub distinct_behind : List EventCfg → List EventCfg → Result (Unit {0}) CfgFault
distinct_behind before [] = Ok tt
distinct_behind before (event ∷ events) =
    and_then (fault_of_twice (position (has_dtc event.dtc) before) (length before))
    (distinct_behind (before ++ event ∷ []) events)

-- The first event whose DTC an earlier one has, with the first that has it.
abbrev pub distinct_result : List EventCfg → Result (Unit {0}) CfgFault
distinct_result events = distinct_behind [] events

-- Fewer pages are used than are needed.
abbrev pub fault_of_room : Bool → ℕ → ℕ → Result (Unit {0}) CfgFault
fault_of_room true needed pages = Err (NoRoom needed pages)
fault_of_room false needed pages = Ok tt

-- The records have room in the pages that are used.
abbrev pub room_result : Config → Result (Unit {0}) CfgFault
room_result config = fault_of_room (nat_lt config.pages (needed_pages config)) (needed_pages config) config.pages

-- The configuration, if no check refuses it.
abbrev pub unless_faulty : Config → Result (Unit {0}) CfgFault → Result Config CfgFault
unless_faulty config (Ok done) = Ok config
unless_faulty config (Err fault) = Err fault

-- A configuration, or its first fault.
unfoldable pub check_of : Config → Result Config CfgFault
check_of config =
    unless_faulty config
    (and_then (ranges_result (settings config))
    (and_then (distinct_result config.events.items) (room_result config)))
