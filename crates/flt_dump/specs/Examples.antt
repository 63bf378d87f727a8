-- Worked dumps and listings.
use Rattle.std.specs.Prelude.{◌≡◌, ℕ, List, [], ◌∷◌, ◌++◌, replicate, codes, Ok, Err}
use Rattle.flt_sector_model.specs.Example.{image_of, sector_of, torn, valid_sector}
use Rattle.flt_sector_model.specs.Examples.{blocks, every_image}
use Rattle.flt_dump.specs.Dump.{pages_spelled}
use Rattle.flt_dump.specs.Listing.{listing_text}

abbrev pub line : List ℕ → List ℕ
line words = words ++ 10 ∷ []

-- Every kind of item of a log; no valid sector; and pages with a fault.
pub record ListsEachItem : Type 0 where
  pub items : listing_text 24 blocks every_image ≡
      line (codes "sector 0 sequence 7")
      ++ line (codes "page 2 block 8 length 40 complete")
      ++ line (codes "page 6 block 9 length 1 incomplete")
      ++ line (codes "page 9 torn")
      ++ line (codes "page 10 block 9 length 1 complete")
      ++ line (codes "page 13 block 9 length 2 incomplete")
      ++ line (codes "page 16 block 10 length 3 complete")
      ++ line (codes "page 19 block 10 length 0 invalid")
      ++ line (codes "page 21 torn")
  pub none : listing_text 8 blocks (image_of (sector_of 8 []) (sector_of 8 (torn ∷ []))) ≡ line (codes "no sector")
  pub damaged : listing_text 8 blocks (image_of (valid_sector 8 5 []) (valid_sector 8 5 [])) ≡ []

-- Two lines of pages are asked for, of which the first has number 3: one is missing, wrong, or too many.
abbrev pub page : List ℕ
page = replicate 64 102

pub record TellsWrongLines : Type 0 where
  pub two : pages_spelled 3 2 (page ∷ page ∷ []) ≡ Ok (replicate 32 255 ∷ replicate 32 255 ∷ [])
  pub missing : pages_spelled 3 2 (page ∷ []) ≡ Err 4
  pub wrong : pages_spelled 3 2 (codes "image" ∷ page ∷ []) ≡ Err 3
  pub many : pages_spelled 3 2 (page ∷ page ∷ page ∷ []) ≡ Err 5
