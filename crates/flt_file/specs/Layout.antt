-- Where the pages of a device are in its bytes: page after page, sector 1 after sector 0.
use Rattle.std.specs.Prelude.{ℕ, ◌*◌, List, [], ◌∷◌, take, drop, map}
use Rattle.std.specs.List.{range_with_len}

-- The page of this number.
abbrev pub page_in : List ℕ → ℕ → List ℕ
page_in held number = take 32 (drop (32 * number) held)

-- This many pages, from this number on.
abbrev pub pages_in : List ℕ → ℕ → ℕ → List (List ℕ)
pages_in held from pages = map (page_in held) (range_with_len from pages)

-- A flash of two sectors of this many pages.
abbrev pub image_in : ℕ → List ℕ → List (List (List ℕ))
image_in pages held = pages_in held 0 pages ∷ pages_in held pages pages ∷ []

-- An EEPROM of this many units.
abbrev pub units_in : ℕ → List ℕ → List (List (List ℕ))
units_in units held = pages_in held 0 units ∷ []
