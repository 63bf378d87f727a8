-- Where a record is in a log.
use Rattle.std.specs.Prelude.{◌≡◌, ◌+◌, ◌<◌, ◌≤◌, ℕ, true, List, length, Option, Some, None, IfSome, slice_index_or}
use Rattle.flt_flash.specs.Content.{Content, missing}
use Rattle.flt_flash.specs.Blocks.{record_pages}
use Rattle.flt_code.specs.Word.{is_length}
use Rattle.flt_sector_model.specs.Log.{Entry}
use Rattle.flt_sector_model.specs.Blocks.{bytes_behind}
use Rattle.flt_pages.specs.LogHolds.{record_content}
use Rattle.flt_pages.specs.declared.place.RecordPlace.{RecordPlace}

-- The complete record of a block at a place.
abbrev pub record_at : ℕ → RecordPlace → Entry
record_at block place = record { page = place.page; block = block; length = place.length; valid = place.valid; complete = true }

-- The complete record of a block, if there is one.
abbrev pub record_found : ℕ → Option RecordPlace → Option Entry
record_found block None = None
record_found block (Some place) = Some (record_at block place)

-- A record at this place is below a page, and has a length of its kind.
pub record IsPlaceWithin (bound : ℕ) (place : RecordPlace) : Type 0 where
  -- The record ends at that page or before it.
  pub below : place.page + record_pages place.length ≤ bound
  -- Its length is one of its kind.
  pub kind : is_length place.valid place.length ≡ true

-- The bytes of the record at a place.
abbrev pub record_bytes_at : List (List ℕ) → RecordPlace → List ℕ
record_bytes_at pages place = bytes_behind pages (record_at 0 place)

-- The pages of the record that was found.
abbrev pub pages_found : Option RecordPlace → ℕ
pages_found None = 0
pages_found (Some place) = record_pages place.length

-- A record at this place is in the log that ends at a page.
pub record IsInLog (end : ℕ) (place : RecordPlace) : Type 0 where
  -- The record comes after the gates.
  pub begun : 2 ≤ place.page
  -- It ends where the log ends, or before.
  pub within : IsPlaceWithin end place

-- What the record at a place holds, or nothing yet.
abbrev pub content_at : List (List ℕ) → Option RecordPlace → Content
content_at pages None = missing
content_at pages (Some place) = record_content place.valid (record_bytes_at pages place)

-- A block of this content has its current record at this place of the log that ends at a page, or has none.
pub record IsAt (pages : List (List ℕ)) (end : ℕ) (content : Content) (found : Option RecordPlace) : Type 0 where
  -- The content is what is read at this place.
  pub holds : content ≡ content_at pages found
  -- If there is a place, it is in the log.
  pub inside : IfSome found (λ place. IsInLog end place)

-- The place of each number, in the order of the numbers, gives what its block holds.
abbrev pub TellsPlaces : List ℕ → List (Option RecordPlace) → List (List ℕ) → ℕ → (ℕ → Content) → Type 0
TellsPlaces numbers places pages end value = (k : ℕ) → k < length numbers → IsAt pages end (value (slice_index_or numbers k 0)) (slice_index_or places k None)

-- The place of a block in the table.
pub record IsPlaceOf (numbers : List ℕ) (places : List (Option RecordPlace)) (block : ℕ) (found : Option RecordPlace) : Type 0 where
  -- The index of the block's number.
  pub index : ℕ
  -- It is an index of the table.
  pub within : index < length numbers
  -- The number there is the block's.
  pub number : slice_index_or numbers index 0 ≡ block
  -- The place there is this one.
  pub place : slice_index_or places index None ≡ found
