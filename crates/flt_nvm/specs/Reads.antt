-- What reads of blocks make of a driver, and when one answers that the flash failed it.
use Rattle.std.specs.Prelude.{◌≡◌, ◌⊎◌, ◌+◌, ◌≢◌, ℕ, List, Option, Some, None, Result, IsFalse, IfOk, OnOk, OnErr, IsErrOf}
use Rattle.flt_flash.specs.Content.{Content, size_of}
use Rattle.flt_flash.specs.State.{HasRisenBy}
use Rattle.flt_flash.specs.Blocks.{BlocksState, byte_pages}
use Rattle.flt_flash.specs.Calls.{CostsAtMost, Follows, NeverFull, NoFault, ReadCosts, ReadsAlone, SameImage, SameSpent, SameValues}
use Rattle.flt_flash.specs.declared.blocks.BlockFault.{BlockFault}
use Rattle.flt_flash.specs.declared.blocks.BlockFault.TheVariants.{Flash, Damaged}
use Rattle.flt_nvm.specs.declared.got.Got.{Got}
use Rattle.flt_nvm.specs.Table.{driver_number}
use Rattle.flt_nvm.specs.Tries.{Tries, Looks}
use Rattle.flt_nvm.specs.Leaves.{FlashTakesThree, GivesInAJob, GotOf, GotOfBoth, GotOfSecond, HasFailedCopy, HasNoBytes, NamesNumber}

-- One job that reads a number, whatever it answers.
abbrev pub LooksInAJob : {T : Type 0} → ℕ → BlocksState → BlocksState → Result T BlockFault → Type 0
LooksInAJob number before after result = Tries 3 (Looks number) before after result

-- A job that reads the first copy, and one at most that reads the second.
abbrev pub LooksInTwoJobs : {T : Type 0} → ℕ → BlocksState → BlocksState → Result T BlockFault → Type 0
LooksInTwoJobs {T} id before after result =
    LooksInAJob (driver_number id 0) before after result
    ⊎ ((between : BlocksState) × (first : Result T BlockFault) × LooksInAJob (driver_number id 0) before between first
    × (second : Result T BlockFault) × LooksInAJob (driver_number id 1) between after second)

-- A job that reads a number, and one at most that gives it a content.
abbrev pub MendsInTwoJobs : Type 0 → ℕ → Content → ℕ → BlocksState → BlocksState → Result (Unit {0}) BlockFault → Type 0
MendsInTwoJobs Read number asked size before after result =
    ((found : Result Read BlockFault) × LooksInAJob number before after found)
    ⊎ ((between : BlocksState) × (found : Result Read BlockFault) × LooksInAJob number before between found
    × GivesInAJob number asked size between after result)

-- What a read of both copies costs at most on a driver that is not stale, where no operation failed: the pages of their bytes.
abbrev pub ReadsBothCosts : BlocksState → BlocksState → ℕ → Type 0
ReadsBothCosts before after id =
    IsFalse before.is_stale → NoFault before after
    → CostsAtMost (byte_pages (size_of (before.value (driver_number id 0))) + byte_pages (size_of (before.value (driver_number id 1)))) before after

-- A number could not be read.
pub record IsUnread (number : ℕ) (before after : BlocksState) : Type 0 where
  pub three : HasRisenBy 3 before.device.faults after.device.faults
  pub named : after.last_failed ≡ Some number

-- Neither copy could be read, or one could not and the other has no bytes; the last call that failed was of a copy.
pub record IsUnreadable (before after : BlocksState) (id : ℕ) : Type 0 where
  pub copies : HasRisenBy 6 before.device.faults after.device.faults
      ⊎ (HasRisenBy 3 before.device.faults after.device.faults × (HasNoBytes (before.value (driver_number id 0)) ⊎ HasNoBytes (before.value (driver_number id 1))))
  pub named : HasFailedCopy id after

-- A copy could be neither read nor written, or it holds other bytes and could not be written; the last call that failed was of it.
pub record IsUnmended (before after : BlocksState) (number : ℕ) (asked : Content) : Type 0 where
  pub cause : HasRisenBy 6 before.device.faults after.device.faults ⊎ (HasRisenBy 3 before.device.faults after.device.faults × (before.value number ≢ asked))
  pub named : after.last_failed ≡ Some number

-- A job that reads a number, as this copy.
pub record ReadsNumber (copy number : ℕ) (before after : BlocksState) (out_before out_after : List ℕ) (result : Result Got BlockFault) : Type 0 where
  pub job : LooksInAJob number before after result
  pub got : IfOk result (λ got. GotOf copy (before.value number) got out_before out_after)
  pub nothing : OnErr result (out_after ≡ out_before)
  pub reads : ReadsAlone before after result
  pub costs : ReadCosts before after number
  pub three : FlashTakesThree before after result
  pub named : NamesNumber number before after result

-- Reads that change no block, as those of `ReadsAlone`, but for the cause of Flash.
pub record OnlyLooks {T : Type 0} (before after : BlocksState) (result : Result T BlockFault) : Type 0 where
  pub values : SameValues before after
  pub keeps_driver : Follows before after
  pub damaged : (sector page : ℕ) → IsErrOf result (Damaged sector page) → (before.damage ≡ Some (sector, page)) × IsFalse before.has_mounted
  pub refuses_damage : OnOk result (before.damage ≡ None)
  pub never_full : NeverFull result
  pub spent : SameSpent before after
  pub settled : OnOk result (IsFalse after.is_stale)
  pub stale : IsFalse before.is_stale → IsFalse after.is_stale
  pub image : IsFalse before.is_stale → SameImage before after

-- A job that reads the second copy: its bytes are the answer, or where it has none what the first copy gave, or Flash where that could not be read.
pub record ReadsSecond (id : ℕ) (before after : BlocksState) (first : Option Got) (out_before out_after : List ℕ) (result : Result Got BlockFault) : Type 0 where
  pub read : Result Got BlockFault
  pub job : LooksInAJob (driver_number id 1) before after read
  pub got : IfOk result (λ got. GotOfSecond (before.value (driver_number id 1)) first got out_before out_after)
  pub nothing : OnErr result (out_after ≡ out_before)
  pub looks : OnlyLooks before after result
  pub costs : ReadCosts before after (driver_number id 1)
  pub unread : IsErrOf result Flash → IsUnread (driver_number id 1) before after ⊎ ((first ≡ None) × HasNoBytes (before.value (driver_number id 1)))
  -- The last call that failed is the one before, or of the second copy.
  pub named : (after.last_failed ≡ before.last_failed) ⊎ (after.last_failed ≡ Some (driver_number id 1))

-- One job or two that read both copies.
pub record ReadsCopies (id : ℕ) (before after : BlocksState) (out_before out_after : List ℕ) (result : Result Got BlockFault) : Type 0 where
  pub jobs : LooksInTwoJobs id before after result
  pub got : IfOk result (λ got. GotOfBoth before after id got out_before out_after)
  pub nothing : OnErr result (out_after ≡ out_before)
  pub reads : ReadsAlone before after result
  pub costs : ReadsBothCosts before after id
  pub unread : IsErrOf result Flash → IsUnreadable before after id
  pub three : FlashTakesThree before after result
