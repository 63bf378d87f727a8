-- What the calls on a sector and on a table of places need.
use Rattle.std.specs.Prelude.{◌≡◌, ◌≢◌, ◌+◌, ◌-◌, ◌<◌, ◌≤◌, ◌^◌, ℕ, List, Option, Some, None, Ok, Contains, length}
use Rattle.std.specs.List.{AllPairs}
use Rattle.flt_flash.specs.Image.{sector_at}
use Rattle.flt_flash.specs.Blocks.{pages_of}
use Rattle.flt_flash.specs.State.{FlashState}
use Rattle.flt_sector_model.specs.Blocks.{current}
use Rattle.flt_sector_model.specs.Log.{log}
use Rattle.flt_pages.specs.Blank.{AreBlank}
use Rattle.flt_pages.specs.Live.{held_in, current_pages}
use Rattle.flt_pages.specs.RecordPlace.{IsAt, IsPlaceOf, TellsPlaces}
use Rattle.flt_pages.specs.Told.{current_of}
use Rattle.flt_pages.specs.declared.current.CurrentSector.{CurrentSector}
use Rattle.flt_pages.specs.declared.place.RecordPlace.{RecordPlace}

-- A table has one place for each of these block numbers, no two of which are the same.
pub record IsTableOf (numbers : List ℕ) (places : List (Option RecordPlace)) : Type 0 where
  -- There is one place a number.
  pub size : length places ≡ length numbers
  -- No two numbers are the same.
  pub distinct : AllPairs (λ a b. a ≢ b) numbers

-- No more pages of this sector are used than there are, and its log has no fault.
pub record HasSoundLog (flash : FlashState) (at : CurrentSector) (numbers : List ℕ) : Type 0 where
  -- The sector has at least as many pages as are used.
  pub most : at.used ≤ flash.pages
  -- Its log has no fault.
  pub sound : (log at.used numbers (sector_at flash.image at.sector)).fault ≡ None

-- All that the blocks hold can be copied from this sector: its log has no fault, the copies have room after the gates of the other one, and
-- the table says where each record is.
pub record CanBeCopied (flash : FlashState) (at : CurrentSector) (numbers : List ℕ) (places : List (Option RecordPlace)) : Type 0 where
  -- The log has no fault.
  pub log : HasSoundLog flash at numbers
  -- The current records fit after the gates of the other sector.
  pub room : 2 + current_pages at.used numbers (sector_at flash.image at.sector) ≤ at.used
  -- The table has one place a number.
  pub table : IsTableOf numbers places
  -- The table says where each record is.
  pub tells : TellsPlaces numbers places (sector_at flash.image at.sector) at.used (held_in at.used numbers (sector_at flash.image at.sector))

-- The sectors can be switched: this one is the current one with its sequence number, there is a next number, and all can be copied.
pub record CanSwitch (flash : FlashState) (at : CurrentSector) (numbers : List ℕ) (places : List (Option RecordPlace)) : Type 0 where
  -- This sector is the current one.
  pub current : current at.used flash.image ≡ Ok (Some (current_of at))
  -- A next sequence number fits four bytes.
  pub next : at.sequence + 1 < 2 ^ 32
  -- At least four pages of a sector are used.
  pub least : 4 ≤ at.used
  -- All that the blocks hold can be copied.
  pub source : CanBeCopied flash at numbers places

-- The other sector is blank from this page on.
abbrev pub HasBlankOther : FlashState → CurrentSector → ℕ → Type 0
HasBlankOther flash at from = AreBlank (sector_at flash.image (1 - at.sector)) from at.used

-- The current record of this block can be copied to a page of another sector: it has room there, and its place in the table is right.
pub record CanCopyBlock (flash : FlashState) (at : CurrentSector) (numbers : List ℕ) (places : List (Option RecordPlace)) (number end : ℕ) : Type 0 where
  -- The number is one of the table's.
  pub among : Contains numbers number
  -- The table says where its current record is.
  pub place : (found : Option RecordPlace) → IsPlaceOf numbers places number found
      → IsAt (sector_at flash.image at.sector) at.used (held_in at.used numbers (sector_at flash.image at.sector) number) found
  -- The copy comes after the gates of the other sector.
  pub begun : 2 ≤ end
  -- The other sector has room for it.
  pub room : end + pages_of (held_in at.used numbers (sector_at flash.image at.sector) number) ≤ at.used
