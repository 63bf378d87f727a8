-- Worked operations, which the checker carries out.
use Rattle.std.specs.Prelude.{◌≡◌, ℕ, List, [], ◌∷◌, ◌++◌, replicate}
use Rattle.flt_embed.specs.declared.operation.Operation.TheVariants.{Program, Erase}
use Rattle.flt_embed.specs.Carried.{carried}

-- A page whose bytes are all this one.
abbrev pub page_with : ℕ → List ℕ
page_with byte = replicate 32 byte

-- The image of a flash of two pages a sector, of these pages: both of sector 0, and then both of sector 1.
abbrev pub image_with : ℕ → ℕ → ℕ → ℕ → List ℕ
image_with first second third fourth = page_with first ++ page_with second ++ page_with third ++ page_with fourth

-- A page is programmed in its own sector, and a sector is erased whole; a later operation comes over an earlier one; and what would reach
-- beyond the image changes nothing.
pub record OperationsAreCarriedOut : Type 0 where
  pub none : carried 2 [] (image_with 1 2 3 4) ≡ image_with 1 2 3 4
  pub page_first : carried 2 (Program 1 0 (page_with 9) ∷ []) (image_with 1 2 3 4) ≡ image_with 1 2 9 4
  pub page_last : carried 2 (Program 0 1 (page_with 9) ∷ []) (image_with 1 2 3 4) ≡ image_with 1 9 3 4
  pub sector : carried 2 (Erase 1 ∷ []) (image_with 1 2 3 4) ≡ image_with 1 2 255 255
  pub order : carried 2 (Erase 0 ∷ Program 0 0 (page_with 9) ∷ Program 0 0 (page_with 8) ∷ []) (image_with 1 2 3 4) ≡ image_with 8 255 3 4
  pub outside : carried 2 (Program 2 0 (page_with 9) ∷ Erase 2 ∷ []) (image_with 1 2 3 4) ≡ image_with 1 2 3 4
