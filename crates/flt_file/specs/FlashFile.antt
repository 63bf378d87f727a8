-- What a flash in a file means.
use Rattle.std.specs.Prelude.{ℕ, List, [], ◌∷◌, Option}
use Rattle.flt_flash.specs.State.{FlashState}
use Rattle.flt_file.specs.Layout.{image_in}
use Rattle.flt_file.specs.Kept.{first_kept}
use Rattle.flt_file.specs.KeptOf.{kept_of}
use Rattle.flt_file.specs.Device.{device_by}
use Rattle.flt_file.specs.declared.flash.FlashFile.{FlashFile}

-- The flash as every user of a flash sees it.
abbrev pub flash_file_state : {B : Type 0} {g : _} → (B → Option (List ℕ)) → FlashFile B g → FlashState
flash_file_state told flash = device_by flash.pages (image_in flash.pages) (flash.first_wear ∷ flash.second_wear ∷ []) (kept_of told flash.kept)

-- A flash of two sectors of this many pages that was just opened: it is off, and its power may come once.
abbrev pub first_flash : ℕ → List ℕ → FlashState
first_flash pages bytes = device_by pages (image_in pages) (0 ∷ 0 ∷ []) (first_kept bytes)

-- The bytes of its two sectors.
abbrev pub sector_bytes : {B : Type 0} {g : _} → (B → Option (List ℕ)) → FlashFile B g → List ℕ
sector_bytes told flash = (kept_of told flash.kept).bytes
