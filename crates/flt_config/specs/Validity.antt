-- Which configurations are valid: numbers in their ranges, distinct DTCs, and room for the records.
use Rattle.std.specs.Prelude.{◌≢◌, ℕ, ◌+◌, ◌*◌, ◌/◌, ◌≤◌, ℤ, pos, negsuc, ◌≤ℤ◌, ◌<ℤ◌, Option, IfSome, All, AllPairs, length, Bool, ◌==◌}
use Rattle.flt_config.specs.declared.config.Config.{Config}
use Rattle.flt_config.specs.declared.config.EventCfg.{EventCfg}
use Rattle.flt_config.specs.declared.config.Debounce.{Debounce}
use Rattle.flt_config.specs.declared.config.Debounce.TheVariants.{Counter, Time}
use Rattle.flt_config.specs.Ranges.{frame_width}

-- A number is in the range from the first to the second.
abbrev pub IsFromTo : ℕ → ℕ → ℕ → Type 0
IsFromTo least greatest number = (least ≤ number) × (number ≤ greatest)

-- The same for a number that may be below 0.
abbrev pub IsSignedFromTo : ℤ → ℤ → ℤ → Type 0
IsSignedFromTo least greatest number = (least ≤ℤ number) × (number ≤ℤ greatest)

-- A jump, if there is one, is strictly between the two thresholds.
abbrev pub IsJumpBetween : ℤ → ℤ → Option ℤ → Type 0
IsJumpBetween pass_at fail_at jump = IfSome jump (λ value. (pass_at <ℤ value) × (value <ℤ fail_at))

-- A counter's thresholds are on both sides of 0, its steps go towards them, and its jumps are between them.
pub record IsCounterInRange (fail_at pass_at up down : ℤ) (jump_up jump_down : Option ℤ) : Type 0 where
  pub fail_at_above : IsSignedFromTo (pos 1) (pos 32767) fail_at
  pub pass_at_below : IsSignedFromTo (negsuc 32767) (negsuc 0) pass_at
  pub up_above : IsSignedFromTo (pos 1) (pos 32767) up
  pub down_above : IsSignedFromTo (pos 1) (pos 32767) down
  pub jump_up_between : IsJumpBetween pass_at fail_at jump_up
  pub jump_down_between : IsJumpBetween pass_at fail_at jump_down

-- A debouncing by counter or by time in ticks.
abbrev pub IsDebounceInRange : Debounce → Type 0
IsDebounceInRange (Counter fail_at pass_at up down jump_up jump_down) =
    IsCounterInRange fail_at pass_at up down jump_up jump_down
IsDebounceInRange (Time fail pass) = IsFromTo 1 65535 fail × IsFromTo 1 65535 pass

-- Each number of an event is in its range.
pub record IsEventInRange (event : EventCfg) : Type 0 where
  pub dtc : IsFromTo 1 0xFFFFFE event.dtc
  pub priority : IsFromTo 1 255 event.priority
  pub cycle : event.cycle ≤ 3
  pub confirm : IsFromTo 1 255 event.confirm
  pub heal : IsFromTo 1 255 event.heal
  pub age : IsFromTo 1 255 event.age
  pub debounce : IsDebounceInRange event.debounce
  pub did_widths : All (λ did. IsFromTo 1 8 did.width) event.dids.items
  pub frame : frame_width event.dids.items ≤ 32

-- The number of blocks of 16 states that hold this many events.
abbrev pub state_blocks : ℕ → ℕ
state_blocks events = (events + 15) / 16

-- The pages of 32 bytes that the records of a configuration take in a sector.
abbrev pub needed_pages : Config → ℕ
needed_pages config = 22 + 8 * state_blocks (length config.events.items) + 10 * config.memory + 3 * config.blocks

-- Two events have different DTCs.
abbrev pub HasOtherDtc : EventCfg → EventCfg → Type 0
HasOtherDtc first second = first.dtc ≢ second.dtc

-- An event has this DTC.
abbrev pub has_dtc : ℕ → EventCfg → Bool
has_dtc dtc event = event.dtc == dtc

-- A configuration is valid.
pub record IsValid (config : Config) : Type 0 where
  pub memory : IsFromTo 1 16 config.memory
  pub pages : IsFromTo 64 1024 config.pages
  pub blocks : config.blocks ≤ 40
  pub events : All IsEventInRange config.events.items
  pub distinct : AllPairs HasOtherDtc config.events.items
  pub room : needed_pages config ≤ config.pages
