-- What a switch of the sectors leaves, and what it costs.
use Rattle.std.specs.Prelude.{◌≡◌, ◌≢◌, ◌+◌, ◌-◌, ◌*◌, ◌<◌, ◌≤◌, ℕ, List, [], length, nat_lt, if◌then◌else◌, Option, None, Result, IfOk, OnErr, slice_index, slice_index_or, slice_set}
use Rattle.flt_flash.specs.Image.{sector_at}
use Rattle.flt_flash.specs.Content.{Content, missing}
use Rattle.flt_flash.specs.Blocks.{pages_of}
use Rattle.flt_flash.specs.State.{FlashState, HasRisenBy, counted_up}
use Rattle.flt_flash.specs.declared.flash.FlashFailed.{FlashFailed}
use Rattle.flt_pages.specs.LogHolds.{LogHolds, StandsAt, given}
use Rattle.flt_pages.specs.Live.{held_in, current_pages}
use Rattle.flt_pages.specs.declared.current.CurrentSector.{CurrentSector}
use Rattle.flt_pages.specs.declared.place.RecordPlace.{RecordPlace}
use Rattle.flt_pages.specs.RecordPlace.{IsAt, TellsPlaces}
use Rattle.flt_pages.specs.Record.{KeptApart}
use Rattle.flt_pages.specs.Recorded.{OnSector}

-- The blocks of numbers below one hold what they hold, and the others nothing yet.
abbrev pub copied_below : ℕ → (ℕ → Content) → ℕ → Content
copied_below from value block = if nat_lt block from then value block else missing

-- Pages from 2 on are written, and no others.
abbrev pub KeepsGates : List (List ℕ) → List (List ℕ) → Type 0
KeepsGates pages after = KeptApart pages after 2 (length pages)

-- Pages of a sector after its gates are written, and nothing else of the image; a failure has its cause.
pub record WritesBehindGates {T : Type 0} (before after : FlashState) (sector : ℕ) (result : Result T FlashFailed) : Type 0 where
  -- The pages of the sector now.
  pub pages : List (List ℕ)
  -- No other sector changed.
  pub on : OnSector before after sector pages
  -- The two gates are as they were.
  pub gates : KeepsGates (sector_at before.image sector) pages
  -- After Err one operation has failed.
  pub cause : OnErr result (HasRisenBy 1 before.faults after.faults)

-- Copies after this page took two operations for each of their pages at most.
abbrev pub TakesTwoForEach : ℕ → FlashState → FlashState → Result ℕ FlashFailed → Type 0
TakesTwoForEach from before after result = IfOk result (λ end. after.operations + 2 * from ≤ before.operations + 2 * end)

-- The current record of a block is copied after the log of the other sector; the answer is where that log ends then.
pub record CopiesBlock (before after : FlashState) (at : CurrentSector) (numbers : List ℕ) (number end : ℕ) (result : Result ℕ FlashFailed) : Type 0 where
  -- Only pages after the gates of the other sector changed.
  pub written : WritesBehindGates before after (1 - at.sector) result
  -- The log that was there is as it was.
  pub stays : (k : ℕ) → k < end → slice_index_or written.pages k [] ≡ slice_index_or (sector_at before.image (1 - at.sector)) k []
  -- The log ends after the pages of the copy.
  pub place : IfOk result (λ last. last ≡ end + pages_of (held_in at.used numbers (sector_at before.image at.sector) number))
  -- The log gives the block what it held, and each other block what the log gave it before.
  pub holds : IfOk result (λ last. (value : ℕ → Content) → value number ≡ missing → LogHolds at.used numbers (sector_at before.image (1 - at.sector)) end value
      → LogHolds at.used numbers written.pages last (given number (held_in at.used numbers (sector_at before.image at.sector) number) value))

-- The current records of all blocks are copied after the gates of the other sector; the answer is where its log ends then.
pub record CopiesBlocks (before after : FlashState) (at : CurrentSector) (numbers : List ℕ) (result : Result ℕ FlashFailed) : Type 0 where
  -- Only pages after the gates of the other sector changed.
  pub written : WritesBehindGates before after (1 - at.sector) result
  -- The copies are no longer than the current records.
  pub room : IfOk result (λ end. end ≤ 2 + current_pages at.used numbers (sector_at before.image at.sector))
  -- The log there gives each block what it held.
  pub holds : IfOk result (λ end. LogHolds at.used numbers written.pages end (held_in at.used numbers (sector_at before.image at.sector)))

-- The image has no fault and gives each block this value, whichever of its sectors is the current one.
pub record GivesValues (used : ℕ) (numbers : List ℕ) (image : List (List (List ℕ))) (value : ℕ → Content) : Type 0 where
  -- The current sector.
  pub sector : ℕ
  -- Its sequence number.
  pub sequence : ℕ
  -- The page at which its log ends.
  pub end : ℕ
  -- The log there gives each block this value.
  pub stands : StandsAt used numbers image sector sequence end value

-- The table after a record was copied: the place of its block is that of the copy, in the log that ends here, and no other place moved.
pub record Replaces (numbers : List ℕ) (pages : List (List ℕ)) (before after : List (Option RecordPlace)) (number end : ℕ) (content : Content) : Type 0 where
  -- The place of the block is that of the copy.
  pub own : (k : ℕ) → k < length numbers → slice_index_or numbers k 0 ≡ number → IsAt pages end content (slice_index_or after k None)
  -- No other place moved.
  pub others : (k : ℕ) → k < length numbers → slice_index_or numbers k 0 ≢ number → slice_index_or after k None ≡ slice_index_or before k None

-- This many operations at most, with one erase, of this sector.
pub record Erases (limit sector : ℕ) (before after : FlashState) : Type 0 where
  -- There were at most as many operations.
  pub operations : after.operations ≤ before.operations + limit
  -- This sector was erased once, and no other one.
  pub wear : after.wear ≡ slice_set before.wear sector (counted_up (slice_index before.wear sector))

-- The current records were moved from this sector to the other one: the log there is no longer than they are, and they cost two operations
-- for each of their pages and three more, with one erase.
pub record MovesRecords (pages sector end : ℕ) (before after : FlashState) : Type 0 where
  -- The new log is no longer than the current records.
  pub room : end ≤ 2 + pages
  -- They cost two operations a page and three more, with one erase.
  pub erases : Erases (3 + 2 * pages) (1 - sector) before after

-- The sectors were switched: the other one is the current one with the next number, its log ends here and gives each block what it held.
pub record HasSwitched (before after : FlashState) (at : CurrentSector) (numbers : List ℕ) (places : List (Option RecordPlace)) (end : ℕ) : Type 0 where
  -- The other sector is the current one with the next number, and its log gives each block what it held.
  pub stands : StandsAt at.used numbers after.image (1 - at.sector) (at.sequence + 1) end (held_in at.used numbers (sector_at before.image at.sector))
  -- The table says where each record is.
  pub table : TellsPlaces numbers places (sector_at after.image (1 - at.sector)) end (held_in at.used numbers (sector_at before.image at.sector))
  -- The new log is no longer than the records, and the cost is two operations a page and three more.
  pub moves : MovesRecords (current_pages at.used numbers (sector_at before.image at.sector)) at.sector end before after
