-- Where a record may be appended, and what is read back of a record and of gates.
use Rattle.std.specs.Prelude.{◌≡◌, ◌+◌, ◌≤◌, ℕ, Bool, true, false, List, [], Ok, length, Contains, slice_index_or, slice_set}
use Rattle.flt_flash.specs.Image.{blank_page}
use Rattle.flt_flash.specs.Blocks.{byte_pages, record_pages}
use Rattle.flt_code.specs.Seal.{sealed}
use Rattle.flt_code.specs.Word.{IsWord, word_bytes}
use Rattle.flt_code.specs.declared.words.Word.TheVariants.{Start, Active, Head, Gate}
use Rattle.flt_sector_model.specs.declared.log.Item.TheVariants.{Kept}
use Rattle.flt_sector_model.specs.Log.{item_at}

-- A record of one of the numbers fits at this page of a sector, and its gate is not there yet.
pub record IsPlace (used : ℕ) (numbers : List ℕ) (pages : List (List ℕ)) (page block size : ℕ) (valid : Bool) : Type 0 where
  -- Its head is a code word.
  pub word : IsWord (Head block size valid page)
  -- The block is one of the numbers.
  pub number : Contains numbers block
  -- The record ends within the used pages.
  pub room : page + record_pages size ≤ used
  -- The sector has at least as many pages as are used.
  pub within : used ≤ length pages
  -- The page of its gate is blank.
  pub blank : slice_index_or pages (page + 1 + byte_pages size) [] ≡ blank_page

-- A head that is programmed at this place is read back as a record that is not complete, and with its gate after it as one that is.
pub record IsReadBack (used : ℕ) (numbers : List ℕ) (pages : List (List ℕ)) (page block size : ℕ) (valid : Bool) : Type 0 where
  -- With the head alone it is read back as a record that is not complete.
  pub opened : item_at used numbers (slice_set pages page (sealed (word_bytes (Head block size valid page)))) page ≡ Ok (Kept block size valid false)
  -- With the gate too it is read back as one that is complete.
  pub completed : slice_index_or pages page [] ≡ sealed (word_bytes (Head block size valid page))
      → item_at used numbers (slice_set pages (page + 1 + byte_pages size) (sealed (word_bytes (Gate block page)))) page ≡ Ok (Kept block size valid true)

-- Both gates of a sector are there, with this number.
pub record HasBothGates (used sequence : ℕ) (pages : List (List ℕ)) : Type 0 where
  -- The first page holds the start gate.
  pub start : slice_index_or pages 0 [] ≡ sealed (word_bytes (Start sequence used))
  -- The second page holds the active gate.
  pub active : slice_index_or pages 1 [] ≡ sealed (word_bytes (Active sequence))
