-- The image of a device: sectors of pages of 32 bytes.
use Rattle.std.specs.Prelude.{◌≡◌, ◌<◌, ℕ, List, [], length, replicate, slice_index_or, slice_set}

-- A sector of an image, a list of pages.
abbrev pub sector_at : List (List (List ℕ)) → ℕ → List (List ℕ)
sector_at image sector = slice_index_or image sector []

-- A page of an image, a list of bytes.
abbrev pub page_at : List (List (List ℕ)) → ℕ → ℕ → List ℕ
page_at image sector page = slice_index_or (sector_at image sector) page []

-- An erased page: every bit is 1.
unfoldable pub blank_page : List ℕ
blank_page = replicate 32 255

-- The image with these bytes in place of one page.
abbrev pub programmed : List (List (List ℕ)) → ℕ → ℕ → List ℕ → List (List (List ℕ))
programmed image sector page bytes = slice_set image sector (slice_set (sector_at image sector) page bytes)

-- The image with this sector blank.
abbrev pub erased : List (List (List ℕ)) → ℕ → List (List (List ℕ))
erased image sector = slice_set image sector (replicate (length (sector_at image sector)) blank_page)

-- Each page of a sector has 32 bytes.
abbrev pub ArePages : List (List ℕ) → Type 0
ArePages pages = (page : ℕ) → page < length pages → length (slice_index_or pages page []) ≡ 32
