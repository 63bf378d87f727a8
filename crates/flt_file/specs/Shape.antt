-- A device in a file has the shape of its kind.
use Rattle.std.proofs.Common.{ℕ, zero, suc, ◌+◌, ◌*◌, ◌<◌, ◌≤◌, ◌≡◌, ◌-◌, ◌^◌, List, [], length, drop, get_or, refl, ap, ◌∙◌, arith}
use Rattle.std.proofs.lemmas.List.{length-take-le, length-drop}
use Rattle.std.proofs.lemmas.List.FromFn.{length-map-range_with_len, get_or-map-range_with_len}
use Rattle.flt_flash.specs.Image.{sector_at, ArePages}
use Rattle.flt_flash.specs.State.{HasShape}
use Rattle.flt_ea.specs.State.{HasUnits}
use Rattle.flt_file.specs.Layout.{page_in, pages_in}
use Rattle.flt_file.specs.declared.bytes.ByteStore.{Ghosts}
use Rattle.flt_file.specs.declared.flash.FlashFile.{FlashFile}
use Rattle.flt_file.specs.declared.eeprom.EepromFile.{EepromFile}
use Rattle.flt_file.specs.FlashFile as flash_file
use Rattle.flt_file.specs.EepromFile as eeprom_file

-- Each page of bytes that are long enough has 32 of them.
are_pages : (held : List ℕ) (from pages : ℕ) → 32 * from + 32 * pages ≤ length held → ArePages (pages_in held from pages)
are_pages held from pages fits page lt =
    let few : page < pages = omega (arith, lt, length-map-range_with_len (page_in held) from pages) in
    ap length (get_or-map-range_with_len (page_in held) from pages page (from + page) [] few refl)
    ∙ length-take-le 32 (drop (32 * (from + page)) held) (omega (arith, length-drop (32 * (from + page)) held))

pub flash_shape : {B : Type 0} {g : Ghosts B} → (flash : FlashFile B g) → HasShape (flash_file.flash_file_state g.told flash)
flash_shape {g = g} flash = record {
  most = flash.most;
  sectors = refl;
  pages = sizes;
  bytes = bytes;
  wear = refl;
  operations = omega (arith, flash.kept.most_operations);
  erases = erases;
}
  where
    held : List ℕ
    held = flash_file.sector_bytes g.told flash

    sizes : (sector : ℕ) → sector < 2 → length (sector_at (flash_file.flash_file_state g.told flash).image sector) ≡ flash.pages
    sizes zero lt = length-map-range_with_len (page_in held) 0 flash.pages
    sizes (suc zero) lt = length-map-range_with_len (page_in held) flash.pages flash.pages
    sizes (suc (suc sector)) lt = absurd (omega arith)

    bytes : (sector : ℕ) → sector < 2 → ArePages (sector_at (flash_file.flash_file_state g.told flash).image sector)
    bytes zero lt = are_pages held 0 flash.pages (omega (arith, flash.size))
    bytes (suc zero) lt = are_pages held flash.pages flash.pages (omega (arith, flash.size))
    bytes (suc (suc sector)) lt = absurd (omega arith)

    erases : (sector : ℕ) → sector < 2 → get_or (flash_file.flash_file_state g.told flash).wear sector 0 ≤ 2 ^ 64 - 1
    erases zero lt = omega (arith, flash.most_first_wear)
    erases (suc zero) lt = omega (arith, flash.most_second_wear)
    erases (suc (suc sector)) lt = absurd (omega arith)

pub eeprom_shape : {B : Type 0} {g : Ghosts B} → (device : EepromFile B g) → HasUnits (eeprom_file.eeprom_file_state g.told device)
eeprom_shape {g = g} device = record {
  most = device.most;
  one = refl;
  units = length-map-range_with_len (page_in (eeprom_file.unit_bytes g.told device)) 0 device.units;
  bytes = are_pages (eeprom_file.unit_bytes g.told device) 0 device.units (omega (arith, device.size));
  wear = refl;
}
