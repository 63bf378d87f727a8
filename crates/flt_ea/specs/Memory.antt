-- What an EEPROM in memory means.
use Rattle.std.specs.Prelude.{ℕ, List, [], ◌∷◌, length, Result}
use Rattle.flt_flash.specs.State.{FlashState}
use Rattle.flt_flash.specs.Image.{sector_at}
use Rattle.flt_flash.specs.Arms.{IsProgrammedBy}
use Rattle.flt_flash.specs.declared.flash.FlashFailed.{FlashFailed}
use Rattle.flt_flash.specs.Boots.{one_sector, boots_of, left_of}
use Rattle.flt_flash.specs.PageArrays.{all_pages}
use Rattle.flt_flash.specs.Made.{arms_told}
use Rattle.flt_flash.specs.Power.{PowerState, FailsByArms, power_state}
use Rattle.flt_ea.specs.declared.memory.EepromMem.{EepromMem}

-- The device as every user of an EEPROM sees it.
abbrev pub eeprom_state : EepromMem → FlashState
eeprom_state device = record {
  pages = length (all_pages device.units);
  image = all_pages device.units ∷ [];
  is_off = device.power.is_off;
  faults = device.power.faults;
  operations = device.power.operations;
  wear = [];
  bench = record {
    boots = boots_of one_sector device.boots;
    boots_left = left_of device.boots;
    arms = arms_told device.arms;
    armed = length device.power.standing.items;
  };
}

-- Its power, and the arms that remain.
abbrev pub eeprom_power : EepromMem → PowerState
eeprom_power device = power_state device.power

-- A write of a unit fails exactly where the power is off or an arm acts, and the unit is torn by the pattern then.
abbrev pub WriteFails : {T : Type 0} → EepromMem → EepromMem → ℕ → List ℕ → Result T FlashFailed → Type 0
WriteFails before after unit bytes result = FailsByArms (eeprom_power before) (eeprom_power after) result
    (λ pattern. IsProgrammedBy pattern (sector_at (eeprom_state before).image 0) unit bytes (sector_at (eeprom_state after).image 0))
