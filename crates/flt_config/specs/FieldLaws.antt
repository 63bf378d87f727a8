-- Which number is reported if several of a configuration are out of range, and what its value is.
use Rattle.std.specs.Prelude.{◌≡◌, ℕ, ◌+◌, ◌*◌, ◌<◌, ◌≤◌, ℤ, pos, true, length, slice_index_or, All, Any, Option, Some, None, Err}
use Rattle.flt_config.specs.declared.config.Config.{Config}
use Rattle.flt_config.specs.declared.config.EventCfg.{EventCfg}
use Rattle.flt_config.specs.declared.config.Debounce.{Debounce}
use Rattle.flt_config.specs.declared.config.Debounce.TheVariants.{Counter, Time}
use Rattle.flt_config.specs.declared.config.Field.{Field}
use Rattle.flt_config.specs.declared.config.Field.TheVariants.{Memory, Pages, Blocks, Dtc, Priority, Cycle, Confirm, Heal, Age, FailAt, PassAt, Up, Down, JumpUp, JumpDown, FailTicks, PassTicks, DidWidth, DidSum}
use Rattle.flt_config.specs.declared.config.CfgFault.TheVariants.{Range}
use Rattle.flt_config.specs.Ranges.{frame_width, settings, is_outside}
use Rattle.flt_config.specs.Check.{check_of}

-- ---- their order

-- The position of a field among all fields.
abbrev pub field_position : Field → ℕ
field_position Memory = 0
field_position Pages = 1
field_position Blocks = 2
field_position Dtc = 3
field_position Priority = 4
field_position Cycle = 5
field_position Confirm = 6
field_position Heal = 7
field_position Age = 8
field_position FailAt = 9
field_position PassAt = 10
field_position Up = 11
field_position Down = 12
field_position JumpUp = 13
field_position JumpDown = 14
field_position FailTicks = 15
field_position PassTicks = 16
field_position DidWidth = 17
field_position DidSum = 18

-- The numbers that belong to no event come first, and then those of each event.
abbrev pub event_place : Option ℕ → ℕ
event_place None = 0
event_place (Some event) = event + 1

-- The position of a number: by its event, and among those of one event by its field.
abbrev pub number_place : Option ℕ → Field → ℕ
number_place event field = event_place event * 19 + field_position field

-- ---- their values

-- The number by which an event is debounced, if its debouncing has the field.
abbrev pub debounce_number : Debounce → Field → Option ℤ
debounce_number (Counter fail_at pass_at up down jump_up jump_down) FailAt = Some fail_at
debounce_number (Counter fail_at pass_at up down jump_up jump_down) PassAt = Some pass_at
debounce_number (Counter fail_at pass_at up down jump_up jump_down) Up = Some up
debounce_number (Counter fail_at pass_at up down jump_up jump_down) Down = Some down
debounce_number (Counter fail_at pass_at up down jump_up jump_down) JumpUp = jump_up
debounce_number (Counter fail_at pass_at up down jump_up jump_down) JumpDown = jump_down
debounce_number (Time fail pass) FailTicks = Some (pos fail)
debounce_number (Time fail pass) PassTicks = Some (pos pass)
debounce_number rules _ = None

-- The number that a field of an event has; the widths of its data identifiers are several.
abbrev pub IsNumberOf : EventCfg → Field → ℤ → Type 0
IsNumberOf event Dtc value = value ≡ pos event.dtc
IsNumberOf event Priority value = value ≡ pos event.priority
IsNumberOf event Cycle value = value ≡ pos event.cycle
IsNumberOf event Confirm value = value ≡ pos event.confirm
IsNumberOf event Heal value = value ≡ pos event.heal
IsNumberOf event Age value = value ≡ pos event.age
IsNumberOf event DidWidth value = Any (λ did. value ≡ pos did.width) event.dids.items
IsNumberOf event DidSum value = value ≡ pos (frame_width event.dids.items)
IsNumberOf event field value = debounce_number event.debounce field ≡ Some value

-- The number of a field that belongs to no event.
abbrev pub IsGlobalNumber : Config → Field → ℤ → Type 0
IsGlobalNumber config Memory value = value ≡ pos config.memory
IsGlobalNumber config Pages value = value ≡ pos config.pages
IsGlobalNumber config Blocks value = value ≡ pos config.blocks
IsGlobalNumber config _ value = ⊥

-- The configuration has this number.
abbrev pub HasNumber : Config → Option ℕ → Field → ℤ → Type 0
HasNumber config None field value = IsGlobalNumber config field value
HasNumber config (Some number) field value =
    (number < length config.events.items)
    × ((d : EventCfg) → IsNumberOf (slice_index_or config.events.items number d) field value)

-- ---- what is reported

-- The reported number is the configuration's, and no other number out of range comes before it.
pub record IsFirstOutside (config : Config) (event : Option ℕ) (field : Field) (value : ℤ) : Type 0 where
  pub number : HasNumber config event field value
  pub first : All (λ other. is_outside other ≡ true → number_place event field ≤ number_place other.event other.field) (settings config)

abbrev pub FirstNumberIsTold : Type 0
FirstNumberIsTold = (config : Config) (event : Option ℕ) (field : Field) (value : ℤ) →
    check_of config ≡ Err (Range event field value) → IsFirstOutside config event field value
