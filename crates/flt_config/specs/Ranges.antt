-- The ranges of the numbers in a configuration, as tables in the order in which they are checked.
use Rattle.std.specs.Prelude.{ℕ, ◌+◌, ℤ, pos, negsuc, ◌-ℤ◌, ◌+ℤ◌, int_lt, Bool, ◌||◌, List, [], ◌∷◌, ◌++◌, map, sum_by, Option, None, Some, Result, Ok, Err, find}
use Rattle.flt_config.specs.declared.setting.Setting.{Setting}
use Rattle.flt_config.specs.declared.config.Config.{Config}
use Rattle.flt_config.specs.declared.config.EventCfg.{EventCfg}
use Rattle.flt_config.specs.declared.config.DidUse.{DidUse}
use Rattle.flt_config.specs.declared.config.Debounce.{Debounce}
use Rattle.flt_config.specs.declared.config.Debounce.TheVariants.{Counter, Time}
use Rattle.flt_config.specs.declared.config.Field.{Field}
use Rattle.flt_config.specs.declared.config.Field.TheVariants.{Memory, Pages, Blocks, Dtc, Priority, Cycle, Confirm, Heal, Age, FailAt, PassAt, Up, Down, JumpUp, JumpDown, FailTicks, PassTicks, DidWidth, DidSum}
use Rattle.flt_config.specs.declared.config.CfgFault.{CfgFault}
use Rattle.flt_config.specs.declared.config.CfgFault.TheVariants.{Range}

-- A number of one event, or of none, with the least and the greatest value that it may have.
abbrev pub signed_setting : Option ℕ → Field → ℤ → ℤ → ℤ → Setting
signed_setting event field value least greatest =
    record { event = event; field = field; value = value; least = least; greatest = greatest }

-- The same for a number that is never below 0.
abbrev pub setting : Option ℕ → Field → ℕ → ℕ → ℕ → Setting
setting event field value least greatest = signed_setting event field (pos value) (pos least) (pos greatest)

-- The numbers that belong to no event.
unfoldable pub global_settings : Config → List Setting
global_settings config =
    setting None Memory config.memory 1 16
    ∷ setting None Pages config.pages 64 1024
    ∷ setting None Blocks config.blocks 0 40
    ∷ []

-- The numbers that each event has.
unfoldable pub plain_settings : ℕ → EventCfg → List Setting
plain_settings number event =
    setting (Some number) Dtc event.dtc 1 0xFFFFFE
    ∷ setting (Some number) Priority event.priority 1 255
    ∷ setting (Some number) Cycle event.cycle 0 3
    ∷ setting (Some number) Confirm event.confirm 1 255
    ∷ setting (Some number) Heal event.heal 1 255
    ∷ setting (Some number) Age event.age 1 255
    ∷ []

-- A jump is strictly between the two thresholds.
abbrev pub jump_setting : ℕ → Field → ℤ → ℤ → ℤ → Setting
jump_setting number field pass_at fail_at jump =
    signed_setting (Some number) field jump (pass_at +ℤ pos 1) (fail_at -ℤ pos 1)

-- A jump, if there is one.
unfoldable pub jump_settings : ℕ → Field → ℤ → ℤ → Option ℤ → List Setting
jump_settings number field pass_at fail_at None = []
jump_settings number field pass_at fail_at (Some jump) = jump_setting number field pass_at fail_at jump ∷ []

-- The thresholds and the steps of a counter.
unfoldable pub threshold_settings : ℕ → ℤ → ℤ → ℤ → ℤ → List Setting
threshold_settings number fail_at pass_at up down =
    signed_setting (Some number) FailAt fail_at (pos 1) (pos 32767)
    ∷ signed_setting (Some number) PassAt pass_at (negsuc 32767) (negsuc 0)
    ∷ signed_setting (Some number) Up up (pos 1) (pos 32767)
    ∷ signed_setting (Some number) Down down (pos 1) (pos 32767)
    ∷ []

-- All numbers of a counter.
unfoldable pub counter_settings : ℕ → ℤ → ℤ → ℤ → ℤ → Option ℤ → Option ℤ → List Setting
counter_settings number fail_at pass_at up down jump_up jump_down =
    threshold_settings number fail_at pass_at up down
    ++ jump_settings number JumpUp pass_at fail_at jump_up
    ++ jump_settings number JumpDown pass_at fail_at jump_down

-- The numbers by which an event is debounced.
unfoldable pub debounce_settings : ℕ → Debounce → List Setting
debounce_settings number (Counter fail_at pass_at up down jump_up jump_down) =
    counter_settings number fail_at pass_at up down jump_up jump_down
debounce_settings number (Time fail pass) =
    setting (Some number) FailTicks fail 1 65535 ∷ setting (Some number) PassTicks pass 1 65535 ∷ []

-- The total number of bytes of the data identifiers.
abbrev pub frame_width : List DidUse → ℕ
frame_width dids = sum_by (λ did. did.width) dids

-- The width of each data identifier.
unfoldable pub did_width_settings : ℕ → List DidUse → List Setting
did_width_settings number dids = map (λ did. setting (Some number) DidWidth did.width 1 8) dids

-- The widths, and their sum.
unfoldable pub did_settings : ℕ → List DidUse → List Setting
did_settings number dids =
    did_width_settings number dids ++ setting (Some number) DidSum (frame_width dids) 0 32 ∷ []

-- All numbers of an event.
unfoldable pub event_settings : ℕ → EventCfg → List Setting
event_settings number event =
    plain_settings number event ++ debounce_settings number event.debounce ++ did_settings number event.dids.items

-- The numbers of the events, the first of which has this number.
unfoldable pub events_settings : ℕ → List EventCfg → List Setting
events_settings number [] = []
events_settings number (event ∷ events) = event_settings number event ++ events_settings (number + 1) events

-- All numbers of a configuration.
abbrev pub settings : Config → List Setting
settings config = global_settings config ++ events_settings 0 config.events.items

-- A number is below its least value, or above its greatest.
abbrev pub is_outside : Setting → Bool
is_outside checked = int_lt checked.value checked.least || int_lt checked.greatest checked.value

-- The report of a number that is out of range.
abbrev pub range_fault : Setting → CfgFault
range_fault outside = Range outside.event outside.field outside.value

-- The fault of a number that was found out of range.
abbrev pub fault_of_range : Option Setting → Result (Unit {0}) CfgFault
fault_of_range None = Ok tt
fault_of_range (Some outside) = Err (range_fault outside)

-- The first number that is out of range is the fault.
unfoldable pub ranges_result : List Setting → Result (Unit {0}) CfgFault
ranges_result checked = fault_of_range (find is_outside checked)
