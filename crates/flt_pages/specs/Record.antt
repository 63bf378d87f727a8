-- What a record that is appended at a page leaves of a sector's pages.
use Rattle.std.specs.Prelude.{◌≡◌, ◌⊎◌, ◌+◌, ◌-◌, ◌*◌, ◌<◌, ◌≤◌, ◌++◌, ℕ, Bool, true, List, [], length, replicate, None, slice_range, slice_index_or}
use Rattle.std.specs.List.{flat_map}
use Rattle.flt_code.specs.Seal.{sealed, unsealed}
use Rattle.flt_code.specs.Word.{word_bytes}
use Rattle.flt_code.specs.declared.words.Word.TheVariants.{Head, Gate}
use Rattle.flt_flash.specs.Blocks.{byte_pages}
use Rattle.flt_sector_model.specs.Blocks.{bytes_behind}

-- Bytes as they are on whole pages, the last of which is padded with ones.
abbrev pub on_pages : List ℕ → List ℕ
on_pages bytes = bytes ++ replicate (32 * byte_pages (length bytes) - length bytes) 255

-- All pages outside a range are as they were.
pub record KeptApart (pages after : List (List ℕ)) (from to : ℕ) : Type 0 where
  -- There are as many pages as before.
  pub size : length after ≡ length pages
  -- The pages before the range are as they were.
  pub before : (k : ℕ) → k < from → slice_index_or after k [] ≡ slice_index_or pages k []
  -- The pages after the range are as they were.
  pub behind : (k : ℕ) → to ≤ k → slice_index_or after k [] ≡ slice_index_or pages k []

-- The head is torn, and no code word.
pub record IsTornAtHead (pages after : List (List ℕ)) (page : ℕ) : Type 0 where
  -- No other page changed.
  pub apart : KeptApart pages after page (page + 1)
  -- The page of the head holds no code word.
  pub torn : unsealed (slice_index_or after page []) ≡ None

-- The head is there, and the gate is not.
pub record IsOpen (pages after : List (List ℕ)) (page block length : ℕ) (valid : Bool) : Type 0 where
  -- No page outside the record changed.
  pub apart : KeptApart pages after page (page + 2 + byte_pages length)
  -- The head is there.
  pub head : slice_index_or after page [] ≡ sealed (word_bytes (Head block length valid page))
  -- The page of the gate holds no code word.
  pub gate : unsealed (slice_index_or after (page + 1 + byte_pages length) []) ≡ None

-- Head, bytes and gate are there; the pages of the bytes are padded with ones.
pub record IsWhole (pages after : List (List ℕ)) (page block : ℕ) (bytes : List ℕ) (valid : Bool) : Type 0 where
  -- No page outside the record changed.
  pub apart : KeptApart pages after page (page + 2 + byte_pages (length bytes))
  -- The head is there.
  pub head : slice_index_or after page [] ≡ sealed (word_bytes (Head block (length bytes) valid page))
  -- The gate is there.
  pub gate : slice_index_or after (page + 1 + byte_pages (length bytes)) [] ≡ sealed (word_bytes (Gate block page))
  -- The bytes are read back as they were given.
  pub holds : bytes_behind after (record { page = page; block = block; length = length bytes; valid = valid; complete = true }) ≡ bytes
  -- Their pages are padded with ones.
  pub filled : flat_map (λ page. page) (slice_range after (page + 1) (page + 1 + byte_pages (length bytes))) ≡ on_pages bytes

-- What an append of a record may leave.
abbrev pub RecordLeft : List (List ℕ) → List (List ℕ) → ℕ → ℕ → List ℕ → Bool → Type 0
RecordLeft pages after page block bytes valid = IsTornAtHead pages after page ⊎ IsOpen pages after page block (length bytes) valid
    ⊎ IsWhole pages after page block bytes valid
