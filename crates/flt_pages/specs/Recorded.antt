-- What appending a record leaves of a flash.
use Rattle.std.specs.Prelude.{◌≡◌, ◌+◌, ℕ, Bool, List, length, slice_set, slice_range, Result, OnOk, OnErr}
use Rattle.std.specs.List.{flat_map}
use Rattle.flt_flash.specs.Image.{sector_at}
use Rattle.flt_flash.specs.State.{FlashState, MakesOperations, HasRisenBy}
use Rattle.flt_flash.specs.declared.flash.FlashFailed.{FlashFailed}
use Rattle.flt_flash.specs.Blocks.{byte_pages}
use Rattle.flt_pages.specs.Record.{KeptApart, IsWhole, RecordLeft, on_pages}

-- This sector has these pages, and everything else of the image is as it was.
pub record OnSector (before after : FlashState) (sector : ℕ) (pages : List (List ℕ)) : Type 0 where
  -- Only this sector of the image changed, and it has these pages.
  pub image : after.image ≡ slice_set before.image sector pages
  -- No sector was erased.
  pub wear : after.wear ≡ before.wear
  -- Only operations of the device changed it.
  pub runs : MakesOperations before after

-- The pages of plain bytes after a head, padded with ones.
pub record Fills {T : Type 0} (before after : FlashState) (sector first : ℕ) (bytes : List ℕ) (result : Result T FlashFailed) : Type 0 where
  -- The pages of the sector now.
  pub pages : List (List ℕ)
  -- No other sector changed.
  pub on : OnSector before after sector pages
  -- No page outside those of the bytes changed.
  pub apart : KeptApart (sector_at before.image sector) pages first (first + byte_pages (length bytes))
  -- After Ok they hold the bytes, padded with ones.
  pub holds_asked : OnOk result (flat_map (λ page. page) (slice_range pages first (first + byte_pages (length bytes))) ≡ on_pages bytes)
  -- After Err one operation has failed.
  pub cause : OnErr result (HasRisenBy 1 before.faults after.faults)

-- A record at this page: whole after Ok, and else whole, without its gate, or a torn head.
pub record Records {T : Type 0} (before after : FlashState) (sector page block : ℕ) (bytes : List ℕ) (valid : Bool)
    (result : Result T FlashFailed) : Type 0 where
  -- The pages of the sector now.
  pub pages : List (List ℕ)
  -- No other sector changed.
  pub on : OnSector before after sector pages
  -- After Ok the record is there with its gate.
  pub whole : OnOk result (IsWhole (sector_at before.image sector) pages page block bytes valid)
  -- In any case it is whole, without its gate, or a torn head.
  pub one_of_forms : RecordLeft (sector_at before.image sector) pages page block bytes valid
  -- After Err one operation has failed.
  pub cause : OnErr result (HasRisenBy 1 before.faults after.faults)
