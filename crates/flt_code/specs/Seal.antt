-- The complement code: a page of 16 bytes and their 16 complements.
use Rattle.std.specs.Prelude.{◌≡◌, ◌-◌, ◌&&◌, ◌==◌, ◌<◌, ℕ, List, ◌++◌, map, length, take, if◌then◌else◌, Option, Some, None, slice_index}
use Rattle.std.specs.Str.{bytes_eq}

-- The byte with every bit inverted.
abbrev pub complement : ℕ → ℕ
complement byte = 255 - byte

-- The page of 16 bytes.
unfoldable pub sealed : List ℕ → List ℕ
sealed bytes = bytes ++ map complement bytes

-- Every number of the list is a byte.
abbrev pub AreBytes : List ℕ → Type 0
AreBytes bytes = (k : ℕ) → slice_index bytes k < 256

-- 16 bytes followed by their complements.
pub record IsCodeWordOf (bytes page : List ℕ) : Type 0 where
  pub size : length bytes ≡ 16
  pub range : AreBytes bytes
  pub is : page ≡ sealed bytes

-- The bytes of a page that is a code word.
unfoldable pub unsealed : List ℕ → Option (List ℕ)
unsealed page = if (length page == 32) && bytes_eq page (sealed (take 16 page)) then Some (take 16 page) else None
