-- How the two sectors wear.
use Rattle.std.specs.Prelude.{◌≡◌, ◌+◌, ◌-◌, ◌≤◌, ℕ, List, Option, Some, None, Result, Ok, Err, slice_index_or}
use Rattle.flt_flash.specs.State.{FlashState}
use Rattle.flt_flash.specs.declared.blocks.BlockFault.{BlockFault}
use Rattle.flt_flash.specs.declared.blocks.BlockFault.TheVariants.{Flash, Full, SequenceSpent, Damaged}
use Rattle.flt_sector_model.specs.Blocks.{Current, current}

-- The current sector was erased as often as the other one, or once more; where no sector is valid both were as often.
abbrev pub IsEven : Result (Option Current) (ℕ × ℕ) → List ℕ → Type 0
IsEven (Ok (Some at)) wear = (slice_index_or wear (1 - at.sector) 0 ≤ slice_index_or wear at.sector 0)
    × (slice_index_or wear at.sector 0 ≤ slice_index_or wear (1 - at.sector) 0 + 1)
IsEven (Ok None) wear = slice_index_or wear 0 0 ≡ slice_index_or wear 1 0
IsEven (Err place) wear = ⊥

-- The sectors wear evenly after, where they did before.
abbrev pub StaysEven : ℕ → FlashState → FlashState → Type 0
StaysEven used before after = IsEven (current used before.image) before.wear → IsEven (current used after.image) after.wear

-- A fact of each answer but a fault of the flash.
abbrev pub UnlessFlash : {T : Type 0} → Result T BlockFault → Type 0 → Type 0
UnlessFlash (Ok value) fact = fact
UnlessFlash (Err Flash) fact = Unit {0}
UnlessFlash (Err (Full live needed)) fact = fact
UnlessFlash (Err SequenceSpent) fact = fact
UnlessFlash (Err (Damaged sector page)) fact = fact
