-- What a read finds of the blocks that a commit names.
use Rattle.std.specs.Prelude.{◌≡◌, ◌⊎◌, ℕ, nat_le, if◌then◌else◌, List, [], length, IsTrue}
use Rattle.flt_flash.specs.Content.{Content, missing, invalid, bytes}
use Rattle.flt_flash.specs.State.{HasRisenBy}
use Rattle.flt_flash.specs.Blocks.{BlocksState}
use Rattle.flt_config.specs.declared.config.Config.{Config}
use Rattle.flt_store_model.specs.declared.commit.Commit.{Commit}
use Rattle.flt_store_model.specs.Layout.{number_of, index_in, is_used}
use Rattle.flt_image.specs.Blocks.{longest}

-- The bytes of a content that may be those of a block of a state; empty if it has none or too many.
abbrev pub part_in : Content → List ℕ
part_in missing = []
part_in invalid = []
part_in (bytes held) = if nat_le (length held) longest then held else []

-- The bytes of a used block at the index at which the commit names it; or nothing, if the flash failed three times.
abbrev pub IsLearned : Config → BlocksState → BlocksState → Commit → ℕ → List ℕ → Type 0
IsLearned c before after commit id found =
    IsTrue (is_used c id)
    → (found ≡ part_in (before.value (number_of id (index_in commit id)))) ⊎ ((found ≡ []) × HasRisenBy 3 before.device.faults after.device.faults)

-- Those of each block.
abbrev pub AreLearned : Config → BlocksState → BlocksState → Commit → (ℕ → List ℕ) → Type 0
AreLearned c before after commit found = (id : ℕ) → IsLearned c before after commit id (found id)
