-- What an EEPROM in a file means.
use Rattle.std.specs.Prelude.{ℕ, List, [], Option}
use Rattle.flt_flash.specs.State.{FlashState}
use Rattle.flt_file.specs.Layout.{units_in}
use Rattle.flt_file.specs.Kept.{first_kept}
use Rattle.flt_file.specs.KeptOf.{kept_of}
use Rattle.flt_file.specs.Device.{device_by}
use Rattle.flt_file.specs.declared.eeprom.EepromFile.{EepromFile}

-- The device as every user of an EEPROM sees it.
abbrev pub eeprom_file_state : {B : Type 0} {g : _} → (B → Option (List ℕ)) → EepromFile B g → FlashState
eeprom_file_state told device = device_by device.units (units_in device.units) [] (kept_of told device.kept)

-- An EEPROM of this many units that was just opened: it is off, and its power may come once.
abbrev pub first_eeprom : ℕ → List ℕ → FlashState
first_eeprom units bytes = device_by units (units_in units) [] (first_kept bytes)

-- The bytes of its units.
abbrev pub unit_bytes : {B : Type 0} {g : _} → (B → Option (List ℕ)) → EepromFile B g → List ℕ
unit_bytes told device = (kept_of told device.kept).bytes
