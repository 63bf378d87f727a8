-- What a program or an erase of one sector leaves: done, or torn.
use Rattle.std.specs.Prelude.{◌≡◌, ◌≤◌, ◌+◌, ◌⊎◌, ◌++◌, ℕ, List, None, false, Result, OnOk, OnErr, length, drop, replicate, slice_index, slice_set}
use Rattle.flt_flash.specs.Image.{sector_at, programmed, erased, blank_page}
use Rattle.flt_flash.specs.Tearing.{IsTornPage, IsTornSector}
use Rattle.flt_flash.specs.State.{FlashState, Operates, MakesOperations, HasRisenBy, counted_up}
use Rattle.flt_flash.specs.declared.flash.FlashFailed.{FlashFailed}
use Rattle.flt_code.specs.Seal.{unsealed}
use Rattle.flt_code.specs.Spoiled.{is_spoiled}

-- The program of a code word on a blank page is torn: it is whole or no code word, and nothing else changed.
pub record TornCode (before : List (List (List ℕ))) (sector page : ℕ) (asked : List ℕ) (after : List (List (List ℕ))) : Type 0 where
  -- What the page holds now.
  pub torn : List ℕ
  -- Each of its bits is as before or as asked.
  pub tears : IsTornPage blank_page asked torn
  -- It is the whole code word, or no code word.
  pub word : (torn ≡ asked) ⊎ (unsealed torn ≡ None)
  -- The page does not count as spoiled.
  pub unspoiled : is_spoiled torn ≡ false
  -- Nothing else of the image changed.
  pub only : after ≡ programmed before sector page torn

-- A code word is programmed on a blank page: after Ok it is there, and else it is torn.
pub record Appends {T : Type 0} (before after : FlashState) (sector page : ℕ) (asked : List ℕ) (result : Result T FlashFailed) : Type 0 where
  -- After Ok the page holds the code word.
  pub holds_asked : OnOk result (after.image ≡ programmed before.image sector page asked)
  -- After Err the page is torn.
  pub torn : OnErr result (TornCode before.image sector page asked after.image)
  -- No sector was erased.
  pub wear : after.wear ≡ before.wear
  -- It is one operation of the device.
  pub operation : Operates before after result

-- A page of plain bytes, padded with ones.
abbrev pub padded_page : List ℕ → List ℕ
padded_page bytes = bytes ++ drop (length bytes) blank_page

-- The program of plain bytes on a blank page is torn, and nothing else changed.
pub record TornPiece (before : List (List (List ℕ))) (sector page : ℕ) (asked : List ℕ) (after : List (List (List ℕ))) : Type 0 where
  -- What the page holds now.
  pub torn : List ℕ
  -- Each of its bits is as before or as asked.
  pub tears : IsTornPage blank_page asked torn
  -- Nothing else of the image changed.
  pub only : after ≡ programmed before sector page torn

-- Plain bytes are programmed on a blank page: after Ok they are there, and else they are torn.
pub record AppendsPiece {T : Type 0} (before after : FlashState) (sector page : ℕ) (asked : List ℕ) (result : Result T FlashFailed) : Type 0 where
  -- After Ok the page holds the bytes.
  pub holds_asked : OnOk result (after.image ≡ programmed before.image sector page asked)
  -- After Err the page is torn.
  pub torn : OnErr result (TornPiece before.image sector page asked after.image)
  -- No sector was erased.
  pub wear : after.wear ≡ before.wear
  -- It is one operation of the device.
  pub operation : Operates before after result

-- The erase of a sector is torn, and nothing else changed.
pub record TornErase (before : List (List (List ℕ))) (sector : ℕ) (after : List (List (List ℕ))) : Type 0 where
  -- What the sector holds now.
  pub torn : List (List ℕ)
  -- Each of its bits is as before or erased.
  pub tears : IsTornSector (sector_at before sector) (replicate (length (sector_at before sector)) blank_page) torn
  -- Nothing else of the image changed.
  pub only : after ≡ slice_set before sector torn

-- A sector is erased and its start gate programmed: after Ok the rest of it is blank, and else the erase or the program is torn.
pub record BeginsSector {T : Type 0} (before after : FlashState) (sector : ℕ) (asked : List ℕ) (result : Result T FlashFailed) : Type 0 where
  -- After Ok the sector holds the start gate and is blank after it.
  pub holds_asked : OnOk result (after.image ≡ programmed (erased before.image sector) sector 0 asked)
  -- After Err the erase or the program of the gate is torn.
  pub torn : OnErr result (TornErase before.image sector after.image ⊎ TornCode (erased before.image sector) sector 0 asked after.image)
  -- The sector was erased once.
  pub wear : after.wear ≡ slice_set before.wear sector (counted_up (slice_index before.wear sector))
  -- Only operations of the device changed it.
  pub runs : MakesOperations before after
  -- They were two at most.
  pub operations : after.operations ≤ before.operations + 2
  -- After Err one operation has failed.
  pub cause : OnErr result (HasRisenBy 1 before.faults after.faults)
