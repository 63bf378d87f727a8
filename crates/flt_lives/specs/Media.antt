-- How the two kinds of device keep the blocks of an image.
use Rattle.std.specs.Prelude.{◌≡◌, ℕ, ◌-◌, ◌≤◌, Bool, List, Option}
use Rattle.std.proofs.Common.{sym, arith}
use Rattle.flt_flash.specs.State.{FlashState}
use Rattle.flt_flash.specs.Blocks.{recounted}
use Rattle.flt_sector_model.specs.Blocks.{block_value, current, first_fault}
use Rattle.flt_config.specs.declared.config.Config.{Config}
use Rattle.flt_store_model.specs.Layout.{numbers}
use Rattle.flt_store_model.specs.Image.{image_damage, image_blocks}
use Rattle.flt_fee.specs.Fee.{is_last, state_by as on_flash}
use Rattle.flt_ea.specs.Driver.{state_by as on_eeprom}
use Rattle.flt_ea.specs.Image.{value_in, damage_in, is_spent_in}
use Rattle.flt_life_model.specs.Moment.{Medium, IsOn}

-- The first pages of each sector of a flash, as many as the configuration has, hold the blocks of an image.
abbrev pub sectors : Config → Medium
sectors c = record { value = image_blocks c; damage = image_damage c; is_spent = λ image. is_last (current c.pages image) }

-- The places of the numbers of an image, in the units of an EEPROM, hold its blocks, whatever the configuration.
abbrev pub units : Config → Medium
units c = record { value = value_in numbers; damage = damage_in numbers; is_spent = is_spent_in numbers }

-- What a driver over a flash says of its blocks is what its image says.
pub is_on_sectors : (c : Config) (used : ℕ) (given : List ℕ) (is_stale has_mounted : Bool) (calls : ℕ) (last_failed : Option ℕ) (flash : FlashState)
    → 4 ≤ used → given ≡ numbers → used - 2 ≡ c.pages - 2
    → IsOn (sectors c) (recounted calls last_failed (on_flash used given is_stale has_mounted flash))
is_on_sectors c used given is_stale has_mounted calls last_failed flash least given_is room =
    let same : c.pages ≡ used = omega (arith, least, room) in
    record {
      value = λ i. block_value (same i) (sym given_is i) flash.image;
      damage = λ i. first_fault (same i) (sym given_is i) flash.image;
      is_spent = λ i. is_last (current (same i) flash.image);
    }

-- What a driver over an EEPROM says of its blocks is what its image says.
pub is_on_units : (c : Config) (given : List ℕ) (is_stale has_mounted : Bool) (calls : ℕ) (last_failed : Option ℕ) (device : FlashState) → given ≡ numbers
    → IsOn (units c) (recounted calls last_failed (on_eeprom given is_stale has_mounted device))
is_on_units c given is_stale has_mounted calls last_failed device given_is = record {
  value = λ i. value_in (sym given_is i) device.image;
  damage = λ i. damage_in (sym given_is i) device.image;
  is_spent = λ i. is_spent_in (sym given_is i) device.image;
}
