-- Bytes of a device that a store keeps, and what each operation on them does, whatever the bytes mean.
use Rattle.std.specs.Prelude.{◌≡◌, ℕ, ◌-◌, Bool, true, false, List, [], ◌∷◌, ◌++◌, Result, IsTrue, IsErr, OnErr, length}
use Rattle.flt_flash.specs.State.{HasRisenBy, counted_up}
use Rattle.flt_flash.specs.declared.flash.FlashFailed.{FlashFailed}

-- A power-up: the count of faults and the bytes at its moment.
pub record KeptBoot : Type 0 where
  pub faults : ℕ
  pub bytes : List ℕ

-- The bytes, the power, the counts of faults and of operations, and the power-ups, as FlashState has them.
pub record KeptState : Type 0 where
  pub bytes : List ℕ
  pub is_off : Bool
  pub faults : ℕ
  pub operations : ℕ
  pub boots : List KeptBoot
  pub boots_left : ℕ

-- One read or write, beside what it answers and does to the bytes.
pub record Carries {T : Type 0} (before after : KeptState) (result : Result T FlashFailed) : Type 0 where
  pub size : length after.bytes ≡ length before.bytes
  pub counts : HasRisenBy 0 before.faults after.faults
  pub cause : OnErr result (HasRisenBy 1 before.faults after.faults)
  pub fails_while_off : IsTrue before.is_off → IsErr result
  pub stays_off : IsTrue before.is_off → IsTrue after.is_off
  pub stays_while_off : IsTrue before.is_off → after.bytes ≡ before.bytes
  pub operations : after.operations ≡ counted_up before.operations
  pub boots : after.boots ≡ before.boots
  pub boots_left : after.boots_left ≡ before.boots_left

-- The device is on again.
abbrev pub powered : KeptState → KeptState
powered before = record before {
  is_off = false;
  boots = before.boots ++ record { faults = before.faults; bytes = before.bytes } ∷ [];
  boots_left = before.boots_left - 1;
}

-- A device that was just made of these bytes: it is off, and its power may come once.
abbrev pub first_kept : List ℕ → KeptState
first_kept bytes = record { bytes = bytes; is_off = true; faults = 0; operations = 0; boots = []; boots_left = 1 }
