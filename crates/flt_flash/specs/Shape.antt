-- The image of a flash in memory is two sectors of its pages.
use Rattle.std.proofs.Common.{ℕ, zero, suc, ◌<◌, ◌≤◌, ◌≡◌, ◌-◌, ◌^◌, get_or, length, refl, ◌∙◌, arith}
use Rattle.flt_flash.specs.Image.{sector_at, ArePages}
use Rattle.flt_flash.specs.State.{HasShape}
use Rattle.flt_flash.specs.Memory.{flash_state}
use Rattle.flt_flash.specs.PageArrays.{page_count, page_sizes}
use Rattle.flt_flash.specs.declared.memory.FlashMem.{FlashMem}

-- The shape of the image is kept by the fields of the flash.
pub shape_of : (flash : FlashMem) → HasShape (flash_state flash)
shape_of flash = record {
  most = flash.most;
  sectors = refl;
  pages = sizes;
  bytes = bytes;
  wear = refl;
  operations = omega (arith, flash.most_operations);
  erases = erases;
}
  where
    sizes : (sector : ℕ) → sector < 2 → length (sector_at (flash_state flash).image sector) ≡ flash.pages
    sizes zero lt = page_count flash.first ∙ flash.first_size
    sizes (suc zero) lt = page_count flash.second ∙ flash.second_size
    sizes (suc (suc sector)) lt = absurd (omega arith)

    bytes : (sector : ℕ) → sector < 2 → ArePages (sector_at (flash_state flash).image sector)
    bytes zero lt = page_sizes flash.first
    bytes (suc zero) lt = page_sizes flash.second
    bytes (suc (suc sector)) lt = absurd (omega arith)

    erases : (sector : ℕ) → sector < 2 → get_or (flash_state flash).wear sector 0 ≤ 2 ^ 64 - 1
    erases zero lt = omega (arith, flash.most_first_wear)
    erases (suc zero) lt = omega (arith, flash.most_second_wear)
    erases (suc (suc sector)) lt = absurd (omega arith)
