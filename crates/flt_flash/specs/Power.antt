-- Where the operations of a flash in memory fail, and what they leave of its power.
use Rattle.std.specs.Prelude.{◌≡◌, ℕ, Bool, true, false, ◌||◌, List, [], map, if◌then◌else◌, Option, Some, None, IfSome, is_some, Result, is_err}
use Rattle.std.specs.List.{list_any}
use Rattle.flt_flash.specs.declared.arm.Arm.{Arm}
use Rattle.flt_flash.specs.declared.arm.Arm.TheVariants.{Cut, Fault, Mute}
use Rattle.flt_flash.specs.declared.arm.Pattern.{Pattern}
use Rattle.flt_flash.specs.declared.arm.Pattern.TheVariants.{Nothing}
use Rattle.flt_flash.specs.declared.flash.FlashFailed.{FlashFailed}
use Rattle.flt_flash.specs.declared.power.Power.{Power}
use Rattle.flt_flash.specs.State.{counted_up}
use Rattle.flt_flash.specs.Arms.{after_write, acting, mutes, standing_after_write, standing_after_read}

-- The power, its counts, and the arms that remain, in the order in which they were made.
pub record PowerState : Type 0 where
  pub is_off : Bool
  pub faults : ℕ
  pub operations : ℕ
  pub standing : List Arm

-- What the power of a flash in memory means.
abbrev pub power_state : Power → PowerState
power_state power = record { is_off = power.is_off; faults = power.faults; operations = power.operations; standing = power.standing.items }

-- The power of a flash that was just made.
abbrev pub first_power : PowerState
first_power = record { is_off = false; faults = 0; operations = 0; standing = [] }

-- The arm that acts at the next program or erase, if one does; none acts while the power is off.
abbrev pub next_arm : PowerState → Option Arm
next_arm power = if power.is_off then None else acting (map after_write power.standing)

-- The pattern by which an arm tears.
abbrev pub pattern_of : Option Arm → Option Pattern
pattern_of None = None
pattern_of (Some (Cut after pattern)) = Some pattern
pattern_of (Some (Fault after pattern)) = Some pattern
pattern_of (Some (Mute sector page times)) = None

-- The arm turns the power off.
abbrev pub cuts : Option Arm → Bool
cuts None = false
cuts (Some (Cut after pattern)) = true
cuts (Some (Fault after pattern)) = false
cuts (Some (Mute sector page times)) = false

-- The pattern by which the next program or erase fails, if it does.
abbrev pub failing_by : PowerState → Option Pattern
failing_by power = if power.is_off then Some Nothing else pattern_of (next_arm power)

-- The next read of this page fails.
abbrev pub read_fails : ℕ → ℕ → PowerState → Bool
read_fails sector page power = power.is_off || list_any (mutes sector page) power.standing

-- The power after one more program or erase.
abbrev pub power_after_write : PowerState → PowerState
power_after_write power = record {
  is_off = power.is_off || cuts (next_arm power);
  faults = if is_some (failing_by power) then counted_up power.faults else power.faults;
  operations = counted_up power.operations;
  standing = if power.is_off then power.standing else standing_after_write power.standing;
}

-- The power after one more read of this page.
abbrev pub power_after_read : ℕ → ℕ → PowerState → PowerState
power_after_read sector page power = record {
  is_off = power.is_off;
  faults = if read_fails sector page power then counted_up power.faults else power.faults;
  operations = counted_up power.operations;
  standing = if power.is_off then power.standing else standing_after_read sector page power.standing;
}

-- One program or erase of a flash in memory fails exactly where the power is off or an arm acts, and is torn by the pattern then.
pub record FailsByArms {T : Type 0} (before after : PowerState) (result : Result T FlashFailed) (IsTornBy : Pattern → Type 0) : Type 0 where
  pub fails : is_err result ≡ is_some (failing_by before)
  pub power : after ≡ power_after_write before
  pub by_pattern : IfSome (failing_by before) IsTornBy
