-- What could not be read if a start-up answers that the flash failed.
use Rattle.std.specs.Prelude.{◌≡◌, ◌⊎◌, ℕ, List, Some, Err, IsTrue}
use Rattle.flt_flash.specs.Content.{Content, bytes}
use Rattle.flt_flash.specs.Blocks.{BlocksState}
use Rattle.flt_flash.specs.Calls.{Follows}
use Rattle.flt_flash.specs.State.{HasRisenBy}
use Rattle.flt_flash.specs.declared.blocks.BlockFault.{BlockFault}
use Rattle.flt_flash.specs.declared.blocks.BlockFault.TheVariants.{Flash}
use Rattle.flt_nvm.specs.declared.got.Got.{Got}
use Rattle.flt_nvm.specs.Leaves.{HasNoBytes}
use Rattle.flt_nvm.specs.Reads.{LooksInAJob}
use Rattle.flt_config.specs.declared.config.Config.{Config}
use Rattle.flt_store_model.specs.declared.commit.Commit.{Commit}
use Rattle.flt_store_model.specs.Layout.{mark_number, first_commit, second_commit, number_of, index_in, is_used}
use Rattle.flt_store_model.specs.Reading.{commit_in}
use Rattle.flt_restore.specs.Judging.{IsSource}

-- Among these calls the flash failed three reads of a number in a row, and of all its failures the last one was of this number.
pub record FailsToRead (number : ℕ) (before after : BlocksState) : Type 0 where
  pub first : BlocksState
  pub last : BlocksState
  pub earlier : Follows before first
  pub fails : LooksInAJob {T = Got} number first last (Err Flash)
  pub later : Follows last after
  pub named : after.last_failed ≡ Some number

-- A read failed, and this is what could not be read: its fault is the flash's, which failed in three tries.
pub record FailsAsFlash (IsUnread : BlocksState → BlocksState → Type 0) (before after : BlocksState) (fault : BlockFault) : Type 0 where
  pub fault_is : fault ≡ Flash
  pub unread : IsUnread before after
  pub flash : HasRisenBy 3 before.device.faults after.device.faults

-- The first copy of the commit could not be read, and then the second; or one copy could not be read, and the other has no bytes.
abbrev pub IsCommitUnread : BlocksState → BlocksState → Type 0
IsCommitUnread before after =
    ((middle : BlocksState) × FailsToRead first_commit before middle × FailsToRead second_commit middle after)
    ⊎ (FailsToRead first_commit before after × HasNoBytes (before.value second_commit))
    ⊎ (FailsToRead second_commit before after × HasNoBytes (before.value first_commit))

-- A used block could not be read at the index at which this commit names it.
pub record IsPartUnread (c : Config) (commit : Commit) (before after : BlocksState) : Type 0 where
  pub id : ℕ
  pub used : IsTrue (is_used c id)
  pub fails : FailsToRead (number_of id (index_in commit id)) before after

-- The same, of the commit that these bytes are.
pub record IsNamedUnread (c : Config) (content : Content) (before after : BlocksState) : Type 0 where
  pub raw : List ℕ
  pub holds : content ≡ bytes raw
  pub commit : Commit
  pub read : commit_in c raw ≡ Some commit
  pub part : IsPartUnread c commit before after

-- The commit that counts was read, and then a block that it names could not be read.
pub record IsStateUnread (c : Config) (before after : BlocksState) : Type 0 where
  pub middle : BlocksState
  pub earlier : Follows before middle
  pub content : Content
  pub copy : ℕ
  pub source : IsSource before middle content copy
  pub unread : IsNamedUnread c content middle after

-- The mark, the commit or a block that it names could not be read.
abbrev pub IsImageUnread : Config → BlocksState → BlocksState → Type 0
IsImageUnread c before after = FailsToRead mark_number before after ⊎ IsCommitUnread before after ⊎ IsStateUnread c before after
