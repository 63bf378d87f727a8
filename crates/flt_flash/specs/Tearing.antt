-- What a program or an erase that fails may leave: each bit as before or as after.
use Rattle.std.specs.Prelude.{◌≡◌, ◌⊎◌, ℕ, ◌<◌, List, [], length, slice_index, slice_index_or}
use Rattle.std.specs.Int.{bit_at}

-- Each bit of a byte is as before or as after.
abbrev pub IsTornByte : ℕ → ℕ → ℕ → Type 0
IsTornByte before after torn = (bit : ℕ) → (bit_at torn bit ≡ bit_at before bit) ⊎ (bit_at torn bit ≡ bit_at after bit)

-- Each bit of a page is as before or as after.
pub record IsTornPage (before after torn : List ℕ) : Type 0 where
  pub size : length torn ≡ length before
  pub bytes : (byte : ℕ) → byte < length before → IsTornByte (slice_index before byte) (slice_index after byte) (slice_index torn byte)

-- Each bit of a sector is as before or as after.
pub record IsTornSector (before after torn : List (List ℕ)) : Type 0 where
  pub size : length torn ≡ length before
  pub pages : (page : ℕ) → page < length before → IsTornPage (slice_index_or before page []) (slice_index_or after page []) (slice_index_or torn page [])

-- Each bit of an image is as before or as after.
pub record IsTorn (before after torn : List (List (List ℕ))) : Type 0 where
  pub size : length torn ≡ length before
  pub sectors : (sector : ℕ) → sector < length before → IsTornSector (slice_index_or before sector []) (slice_index_or after sector [])
      (slice_index_or torn sector [])
