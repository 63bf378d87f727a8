-- What a flash in memory means.
use Rattle.std.specs.Prelude.{ℕ, List, [], ◌∷◌, length, Result}
use Rattle.flt_flash.specs.declared.flash.FlashFailed.{FlashFailed}
use Rattle.flt_flash.specs.declared.memory.FlashMem.{FlashMem}
use Rattle.flt_flash.specs.State.{FlashState}
use Rattle.flt_flash.specs.Image.{sector_at}
use Rattle.flt_flash.specs.Arms.{IsProgrammedBy, IsErasedBy}
use Rattle.flt_flash.specs.Boots.{two_sectors, boots_of, left_of}
use Rattle.flt_flash.specs.PageArrays.{all_pages}
use Rattle.flt_flash.specs.Made.{arms_told}
use Rattle.flt_flash.specs.Power.{PowerState, FailsByArms, power_state}

-- The flash as every user of a flash sees it.
abbrev pub flash_state : FlashMem → FlashState
flash_state flash = record {
  pages = flash.pages;
  image = all_pages flash.first ∷ all_pages flash.second ∷ [];
  is_off = flash.power.is_off;
  faults = flash.power.faults;
  operations = flash.power.operations;
  wear = flash.first_wear ∷ flash.second_wear ∷ [];
  bench = record {
    boots = boots_of (two_sectors flash.pages) flash.boots;
    boots_left = left_of flash.boots;
    arms = arms_told flash.arms;
    armed = length flash.power.standing.items;
  };
}

-- Its power, and the arms that remain.
abbrev pub power_of : FlashMem → PowerState
power_of flash = power_state flash.power

-- A program fails exactly where the power is off or an arm acts, and its page is torn by the pattern then.
abbrev pub ProgramFails : {T : Type 0} → FlashMem → FlashMem → ℕ → ℕ → List ℕ → Result T FlashFailed → Type 0
ProgramFails before after sector page bytes result = FailsByArms (power_of before) (power_of after) result
    (λ pattern. IsProgrammedBy pattern (sector_at (flash_state before).image sector) page bytes (sector_at (flash_state after).image sector))

-- An erase fails exactly where the power is off or an arm acts, and its sector is torn by the pattern then.
abbrev pub EraseFails : {T : Type 0} → FlashMem → FlashMem → ℕ → Result T FlashFailed → Type 0
EraseFails before after sector result = FailsByArms (power_of before) (power_of after) result
    (λ pattern. IsErasedBy pattern (sector_at (flash_state before).image sector) (sector_at (flash_state after).image sector))
