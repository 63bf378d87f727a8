-- Worked examples of the check: both ends of each range are accepted, and one beyond is reported.
use Rattle.std.specs.Prelude.{◌≡◌, ℕ, ℤ, pos, negsuc, true, false, List, [], ◌∷◌, map, replicate, Some, None, Result, Ok, Err}
use Rattle.flt_config.specs.declared.config.Config.{Config}
use Rattle.flt_config.specs.declared.config.EventCfg.{EventCfg}
use Rattle.flt_config.specs.declared.config.DidUse.{DidUse}
use Rattle.flt_config.specs.declared.config.Debounce.TheVariants.{Counter, Time}
use Rattle.flt_config.specs.declared.config.Field.{Field}
use Rattle.flt_config.specs.declared.config.Field.TheVariants.{Memory, Pages, Blocks, Dtc, Priority, Cycle, Confirm, Heal, Age, FailAt, PassAt, Up, Down, JumpUp, JumpDown, FailTicks, PassTicks, DidWidth, DidSum}
use Rattle.flt_config.specs.declared.config.CfgFault.{CfgFault}
use Rattle.flt_config.specs.declared.config.CfgFault.TheVariants.{Range, DtcTwice, NoRoom}
use Rattle.flt_config.specs.Check.{check_of}

-- An event with the least number of each field, by a counter.
abbrev pub least_event : EventCfg
least_event = record {
  dtc = 1;
  priority = 1;
  cycle = 0;
  confirm = 1;
  heal = 1;
  age = 1;
  indicator = false;
  needs = 0;
  debounce = Counter (pos 1) (negsuc 0) (pos 1) (pos 1) None None;
  dids = record { items = [] };
}

-- A data identifier of this width.
abbrev pub did_of_width : ℕ → DidUse
did_of_width width = record { id = 0x0101; width = width }

-- An event with the greatest number of each.
abbrev pub greatest_event : EventCfg
greatest_event = record {
  dtc = 0xFFFFFE;
  priority = 255;
  cycle = 3;
  confirm = 255;
  heal = 255;
  age = 255;
  indicator = true;
  needs = 255;
  debounce = Counter (pos 32767) (negsuc 32767) (pos 32767) (pos 32767) (Some (pos 32766)) (Some (negsuc 32766));
  dids = record { items = replicate 4 (did_of_width 8) };
}

-- A configuration of these events, with room for them.
abbrev pub with_events : List EventCfg → Config
with_events events = record { id = 0; memory = 1; pages = 64; blocks = 0; events = record { items = events } }

-- The fault of a number of the first event.
abbrev pub event_fault : Field → ℤ → Result Config CfgFault
event_fault field value = Err (Range (Some 0) field value)

-- The configurations at the ends of all ranges are accepted.
abbrev pub EndsAreAccepted : Type 0
EndsAreAccepted =
    map check_of (with_events [] ∷ with_events (least_event ∷ greatest_event ∷ [])
    ∷ with_events (record least_event { debounce = Time 1 1 } ∷ [])
    ∷ with_events (record least_event { debounce = Time 65535 65535; dids = record { items = did_of_width 1 ∷ [] } } ∷ [])
    ∷ record { id = 0; memory = 16; pages = 1024; blocks = 40; events = record { items = [] } } ∷ [])
    ≡ Ok (with_events []) ∷ Ok (with_events (least_event ∷ greatest_event ∷ []))
    ∷ Ok (with_events (record least_event { debounce = Time 1 1 } ∷ []))
    ∷ Ok (with_events (record least_event { debounce = Time 65535 65535; dids = record { items = did_of_width 1 ∷ [] } } ∷ []))
    ∷ Ok (record { id = 0; memory = 16; pages = 1024; blocks = 40; events = record { items = [] } }) ∷ []

-- The results of the check of one event each.
abbrev pub checked_each : List EventCfg → List (Result Config CfgFault)
checked_each events = map (λ event. check_of (with_events (event ∷ []))) events

-- A number below its range is reported.
abbrev pub BelowIsTold : Type 0
BelowIsTold =
    checked_each (record least_event { dtc = 0 } ∷ record least_event { priority = 0 } ∷ record least_event { confirm = 0 }
    ∷ record least_event { heal = 0 } ∷ record least_event { age = 0 }
    ∷ record least_event { debounce = Counter (pos 0) (negsuc 0) (pos 1) (pos 1) None None }
    ∷ record least_event { debounce = Counter (pos 1) (negsuc 32768) (pos 1) (pos 1) None None }
    ∷ record least_event { debounce = Counter (pos 1) (negsuc 0) (pos 0) (pos 1) None None }
    ∷ record least_event { debounce = Counter (pos 1) (negsuc 0) (pos 1) (pos 0) None None }
    ∷ record least_event { debounce = Counter (pos 1) (negsuc 1) (pos 1) (pos 1) (Some (negsuc 1)) None }
    ∷ record least_event { debounce = Counter (pos 1) (negsuc 1) (pos 1) (pos 1) None (Some (negsuc 1)) }
    ∷ record least_event { debounce = Time 0 1 } ∷ record least_event { debounce = Time 1 0 }
    ∷ record least_event { dids = record { items = did_of_width 1 ∷ did_of_width 0 ∷ [] } } ∷ [])
    ≡ event_fault Dtc (pos 0) ∷ event_fault Priority (pos 0) ∷ event_fault Confirm (pos 0) ∷ event_fault Heal (pos 0) ∷ event_fault Age (pos 0)
    ∷ event_fault FailAt (pos 0) ∷ event_fault PassAt (negsuc 32768) ∷ event_fault Up (pos 0) ∷ event_fault Down (pos 0) ∷ event_fault JumpUp (negsuc 1) ∷ event_fault JumpDown (negsuc 1)
    ∷ event_fault FailTicks (pos 0) ∷ event_fault PassTicks (pos 0) ∷ event_fault DidWidth (pos 0) ∷ []

-- A number above its range is reported.
abbrev pub AboveIsTold : Type 0
AboveIsTold =
    checked_each (record least_event { dtc = 0xFFFFFF } ∷ record least_event { priority = 256 } ∷ record least_event { cycle = 4 }
    ∷ record least_event { confirm = 256 } ∷ record least_event { heal = 256 } ∷ record least_event { age = 256 }
    ∷ record least_event { debounce = Counter (pos 32768) (negsuc 0) (pos 1) (pos 1) None None }
    ∷ record least_event { debounce = Counter (pos 1) (pos 0) (pos 1) (pos 1) None None }
    ∷ record least_event { debounce = Counter (pos 1) (negsuc 0) (pos 32768) (pos 1) None None }
    ∷ record least_event { debounce = Counter (pos 1) (negsuc 0) (pos 1) (pos 32768) None None }
    ∷ record least_event { debounce = Counter (pos 1) (negsuc 0) (pos 1) (pos 1) (Some (pos 1)) None }
    ∷ record least_event { debounce = Counter (pos 1) (negsuc 0) (pos 1) (pos 1) None (Some (pos 1)) }
    ∷ record least_event { debounce = Time 65536 1 } ∷ record least_event { debounce = Time 1 65536 }
    ∷ record least_event { dids = record { items = did_of_width 9 ∷ [] } }
    ∷ record least_event { dids = record { items = did_of_width 1 ∷ replicate 4 (did_of_width 8) } } ∷ [])
    ≡ event_fault Dtc (pos 0xFFFFFF) ∷ event_fault Priority (pos 256) ∷ event_fault Cycle (pos 4) ∷ event_fault Confirm (pos 256) ∷ event_fault Heal (pos 256) ∷ event_fault Age (pos 256)
    ∷ event_fault FailAt (pos 32768) ∷ event_fault PassAt (pos 0) ∷ event_fault Up (pos 32768) ∷ event_fault Down (pos 32768) ∷ event_fault JumpUp (pos 1) ∷ event_fault JumpDown (pos 1)
    ∷ event_fault FailTicks (pos 65536) ∷ event_fault PassTicks (pos 65536) ∷ event_fault DidWidth (pos 9) ∷ event_fault DidSum (pos 33) ∷ []

-- Numbers that belong to no event, DTCs that occur twice, and lack of room: 22 pages, 8 for each 16 events, 10 an entry and 3 a block.
abbrev pub OthersAreTold : Type 0
OthersAreTold =
    map check_of (record (with_events []) { memory = 0 } ∷ record (with_events []) { memory = 17 } ∷ record (with_events []) { pages = 63 }
    ∷ record (with_events []) { pages = 1025 } ∷ record (with_events []) { blocks = 41 }
    ∷ with_events (least_event ∷ record least_event { heal = 0 } ∷ record least_event { dtc = 0 } ∷ [])
    ∷ with_events (greatest_event ∷ least_event ∷ greatest_event ∷ least_event ∷ [])
    ∷ record (with_events (least_event ∷ [])) { memory = 3; blocks = 2 }
    ∷ [])
    ≡ Err (Range None Memory (pos 0)) ∷ Err (Range None Memory (pos 17)) ∷ Err (Range None Pages (pos 63))
    ∷ Err (Range None Pages (pos 1025)) ∷ Err (Range None Blocks (pos 41))
    ∷ Err (Range (Some 1) Heal (pos 0))
    ∷ Err (DtcTwice 0 2)
    ∷ Err (NoRoom 66 64)
    ∷ []
