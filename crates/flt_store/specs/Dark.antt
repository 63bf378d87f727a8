-- What failed where a start-up, or a save, answers that the flash failed it, and what a start-up writes of an image that it refuses.
use Rattle.std.specs.Prelude.{◌≡◌, ◌⊎◌, ℕ, ◌-◌, ◌≤◌, Bool, List, length, Some, Ok, Err, IsFalse}
use Rattle.flt_flash.specs.Content.{bytes}
use Rattle.flt_flash.specs.Blocks.{BlocksState}
use Rattle.flt_flash.specs.Calls.{Follows, OthersKept, SameImage}
use Rattle.flt_flash.specs.declared.blocks.BlockFault.TheVariants.{Flash}
use Rattle.flt_nvm.specs.Tries.{Tries, Mounts}
use Rattle.flt_nvm.specs.Leaves.{GivesInAJob}
use Rattle.flt_nvm.specs.Reads.{IsUnmended, IsUnreadable}
use Rattle.flt_config.specs.declared.config.Config.{Config}
use Rattle.flt_store_model.specs.Layout.{commit_id, mark_number, number_of}
use Rattle.flt_store_model.specs.Form.{mark_of, mark_bytes}
use Rattle.flt_store_model.specs.Holding.{Generation, IsSound}
use Rattle.flt_store_model.specs.declared.place.Place.TheVariants.{Page, Block}
use Rattle.flt_restore.specs.declared.fault.StartFault.{StartFault}
use Rattle.flt_restore.specs.declared.fault.StartFault.TheVariants.{Flash as StartFlash, Damaged, OtherConfig, SequenceSpent}
use Rattle.flt_restore.specs.Unread.{IsImageUnread}
use Rattle.flt_store.specs.Cause.{FailsThrice}
use Rattle.flt_restore.specs.Restored.{IsMarkDue}

-- Among these calls three writes in a row of these bytes to a number were failed by the flash, and of all its failures the last one was of
-- this number.
pub record FailsToWrite (number : ℕ) (raw : List ℕ) (before after : BlocksState) : Type 0 where
  -- The driver before the three writes.
  pub first : BlocksState
  -- The driver after them.
  pub last : BlocksState
  -- It came to the first by calls of the driver.
  pub earlier : Follows before first
  -- The three writes were failed by the flash.
  pub fails : GivesInAJob number (bytes raw) (length raw) first last (Err Flash)
  -- It went on from the last by calls of the driver.
  pub later : Follows last after
  -- The last failure of all was of this number.
  pub named : after.last_failed ≡ Some number

-- The mark had to be written, and could not be.
abbrev pub IsMarkUnwritten : Config → BlocksState → BlocksState → Type 0
IsMarkUnwritten c before after = IsMarkDue (mark_of c) (before.value mark_number) × FailsToWrite mark_number (mark_bytes (mark_of c)) before after

-- The other copy of the commit could be neither read nor written, or holds other bytes and could not be written; before that nothing was
-- written but the mark.
pub record IsCommitUnmended (before after : BlocksState) : Type 0 where
  -- The copy that was read, the first or the second.
  pub copy : ℕ
  -- It is 1 or more.
  pub least : 1 ≤ copy
  -- It is 2 or less.
  pub most : copy ≤ 2
  -- Its bytes.
  pub raw : List ℕ
  -- It holds them.
  pub holds : before.value (number_of commit_id (copy - 1)) ≡ bytes raw
  -- The driver before the other copy was tried.
  pub first : BlocksState
  -- It came there by calls of the driver.
  pub earlier : Follows before first
  -- Until then no block but the mark changed.
  pub same : OthersKept mark_number before first
  -- Then the other copy could not be made equal.
  pub unmended : IsUnmended first after (number_of commit_id (2 - copy)) (bytes raw)

-- What a generation needs in the image could not be written.
abbrev pub IsUnbegun : Config → BlocksState → BlocksState → Type 0
IsUnbegun c before after = IsMarkUnwritten c before after ⊎ IsCommitUnmended before after

-- What a start-up needs of the image could not be read, or not be written.
abbrev pub IsUnready : Config → BlocksState → BlocksState → Type 0
IsUnready c before after = IsImageUnread c before after ⊎ IsUnbegun c before after

-- Three mounts in a row failed; or the image could not be made ready.
abbrev pub IsDark : Config → BlocksState → BlocksState → Type 0
IsDark c before after = Tries 3 Mounts before after (Err Flash) ⊎ IsUnready c before after

-- Of the commit neither copy could be read, or one could not and the other has no bytes; or its other copy could not be mended.
abbrev pub IsUnrestarted : BlocksState → BlocksState → Type 0
IsUnrestarted before after = IsUnreadable before after commit_id ⊎ IsCommitUnmended before after

-- A save before failed, and which generation is stored could not be found out; or, from where both copies of the commit name one
-- generation, the flash failed three times.
abbrev pub IsUnsaved : Config → Bool → BlocksState → BlocksState → Type 0
IsUnsaved c was_settled before after =
    (IsFalse was_settled × IsUnrestarted before after)
    ⊎ ((middle : BlocksState) × Follows before middle × (g : Generation) × IsSound c middle.value g g × FailsThrice middle after)

-- A fault of the blocks, which is judged after a mount.
abbrev pub IsOfBlocks : StartFault → Type 0
IsOfBlocks StartFlash = ⊥
IsOfBlocks (Damaged (Page sector page)) = ⊥
IsOfBlocks (Damaged (Block id)) = Unit {0}
IsOfBlocks (OtherConfig found wanted) = Unit {0}
IsOfBlocks SequenceSpent = ⊥

-- Nothing was written but by a mount.
abbrev pub IsMountedAlone : BlocksState → BlocksState → Type 0
IsMountedAlone before after = (mounted : BlocksState) × Tries 3 Mounts before mounted (Ok tt) × SameImage mounted after
