-- An image that holds nothing.
use Rattle.std.specs.Prelude.{◌≡◌, ◌⊎◌, ℕ, List, Some, None, Ok}
use Rattle.flt_flash.specs.Image.{sector_at}
use Rattle.flt_pages.specs.Blank.{AreBlank}
use Rattle.flt_sector_model.specs.Blocks.{current}

-- The first sector is the current one with the number 1, and its log is empty.
pub record IsFresh (used : ℕ) (image : List (List (List ℕ))) : Type 0 where
  -- The first sector is the current one, with the number 1.
  pub current : current used image ≡ Ok (Some record { sector = 0; sequence = 1 })
  -- It is blank after its gates.
  pub blank : AreBlank (sector_at image 0) 2 used

-- No sector is valid, or the first is and its log is empty.
abbrev pub HoldsNothing : ℕ → List (List (List ℕ)) → Type 0
HoldsNothing used image = (current used image ≡ Ok None) ⊎ IsFresh used image
