-- What a look at pages answers.
use Rattle.std.specs.Prelude.{◌≡◌, ◌⊎◌, ℕ, Option, Some, None, Result, Ok, Err}
use Rattle.flt_flash.specs.declared.blocks.BlockFault.{BlockFault}
use Rattle.flt_flash.specs.declared.blocks.BlockFault.TheVariants as blocks
use Rattle.flt_sector_model.specs.Blocks.{Current}
use Rattle.flt_sector_model.specs.Log.{LogFrom}
use Rattle.flt_pages.specs.declared.fault.PageFault.{PageFault}
use Rattle.flt_pages.specs.declared.fault.PageFault.TheVariants.{Flash, Damaged}
use Rattle.flt_pages.specs.declared.current.CurrentSector.{CurrentSector}

-- A value, or a fault at its page of this sector.
abbrev pub told : {T : Type 0} → ℕ → Result T ℕ → Result T PageFault
told sector (Ok value) = Ok value
told sector (Err page) = Err (Damaged sector page)

-- Nothing, or a fault at its page of this sector.
abbrev pub told_fault : ℕ → Option ℕ → Result (Unit {0}) PageFault
told_fault sector None = Ok tt
told_fault sector (Some page) = Err (Damaged sector page)

-- The end of a log, or its fault at its page of this sector.
abbrev pub told_end : ℕ → ℕ → Option ℕ → Result ℕ PageFault
told_end sector end None = Ok end
told_end sector end (Some page) = Err (Damaged sector page)

-- The same, of a log.
abbrev pub told_log : ℕ → LogFrom → Result ℕ PageFault
told_log sector log = told_end sector log.end log.fault

-- The sector and its number, without its used pages.
abbrev pub current_of : CurrentSector → Current
current_of at = record { sector = at.sector; sequence = at.sequence }

-- The current sector with this many used pages, none where no sector is valid, the fault of a gate, or a failed read.
abbrev pub GivesCurrent : ℕ → Result (Option CurrentSector) PageFault → Result (Option Current) (ℕ × ℕ) → Type 0
GivesCurrent used (Ok None) found = found ≡ Ok None
GivesCurrent used (Ok (Some at)) found = (found ≡ Ok (Some (current_of at))) × (at.used ≡ used)
GivesCurrent used (Err Flash) found = Unit {0}
GivesCurrent used (Err (Damaged sector page)) found = found ≡ Err (sector, page)

-- This answer, or that of a failed read.
abbrev pub TellsOrFails : {T : Type 0} → Result T PageFault → Result T PageFault → Type 0
TellsOrFails result answer = (result ≡ Err Flash) ⊎ (result ≡ answer)

-- A fault of pages, as a driver of blocks answers it.
abbrev pub block_fault : PageFault → BlockFault
block_fault Flash = blocks.Flash
block_fault (Damaged sector page) = blocks.Damaged sector page
