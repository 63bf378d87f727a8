-- What an EEPROM means: it is given as a flash of one sector, whose pages are its units, and which counts no erases.
use Rattle.std.specs.Prelude.{◌≡◌, ◌+◌, ◌*◌, ◌<◌, ℕ, List, [], ◌∷◌, length, nat_lt, if◌then◌else◌, Some, false}
use Rattle.flt_flash.specs.Image.{sector_at, page_at, programmed, ArePages}
use Rattle.flt_flash.specs.State.{FlashState}
use Rattle.flt_flash.specs.declared.arm.Arm.{Arm}
use Rattle.flt_flash.specs.declared.arm.Arm.TheVariants.{Cut, Fault, Mute}

-- A unit of an image.
abbrev pub unit_at : List (List (List ℕ)) → ℕ → List ℕ
unit_at image unit = page_at image 0 unit

-- The image with these bytes in place of one unit.
abbrev pub with_unit : List (List (List ℕ)) → ℕ → List ℕ → List (List (List ℕ))
with_unit image unit bytes = programmed image 0 unit bytes

-- The image is one list of this many units of 32 bytes.
pub record HasUnits (state : FlashState) : Type 0 where
  pub most : state.pages < 65536
  pub one : length state.image ≡ 1
  pub units : length (sector_at state.image 0) ≡ state.pages
  pub bytes : ArePages (sector_at state.image 0)
  pub wear : state.wear ≡ []

-- The arm as a device of units has it: the reads of page p of sector s are those of unit 1024 s + p, if there can be one.
abbrev pub in_units : Arm → Arm
in_units (Cut after pattern) = Cut after pattern
in_units (Fault after pattern) = Fault after pattern
in_units (Mute sector page times) = if nat_lt (1024 * sector + page) 65536 then Mute 0 (1024 * sector + page) times else Mute sector page times

-- A device that was just made of these units, whose power may come back this often.
abbrev pub first_units : List (List ℕ) → ℕ → FlashState
first_units units boots = record {
  pages = length units;
  image = units ∷ [];
  is_off = false;
  faults = 0;
  operations = 0;
  wear = [];
  bench = record { boots = []; boots_left = boots; arms = Some []; armed = 0 };
}
