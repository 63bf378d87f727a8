-- What a call leaves of the blocks, and what it finds.
use Rattle.std.specs.Prelude.{◌≡◌, ◌≢◌, ◌⊎◌, ℕ, List, Option, Some, Result, Ok, IsTrue, IsErr, OnOk, IsErrOf}
use Rattle.flt_flash.specs.Content.{Content, missing, invalid, bytes}
use Rattle.flt_flash.specs.State.{HasRisenBy}
use Rattle.flt_flash.specs.Blocks.{BlocksState, IsFull}
use Rattle.flt_flash.specs.Calls.{BlockCalls, ReadsContent, NeverFull, OthersKept, SameSpent, SameValues, Settles}
use Rattle.flt_flash.specs.declared.blocks.Found.TheVariants.{Bytes as FoundBytes, Missing as FoundMissing, Invalid as FoundInvalid}
use Rattle.flt_flash.specs.declared.blocks.BlockFault.{BlockFault}
use Rattle.flt_flash.specs.declared.blocks.BlockFault.TheVariants.{Flash, Full, SequenceSpent}
use Rattle.flt_nvm.specs.declared.got.Got.{Got}
use Rattle.flt_nvm.specs.declared.got.Got.TheVariants.{Bytes, Missing, Invalid}
use Rattle.flt_nvm.specs.Table.{driver_number}
use Rattle.flt_nvm.specs.Tries.{Tries, Changing, Mounts}

-- A number holds what it held, or what was asked.
abbrev pub IsEither : BlocksState → BlocksState → ℕ → Content → Type 0
IsEither before after number asked = (after.value number ≡ before.value number) ⊎ (after.value number ≡ asked)

-- A fault of the flash comes only where the count of faults rose by three.
abbrev pub FlashTakesThree : {T : Type 0} → BlocksState → BlocksState → Result T BlockFault → Type 0
FlashTakesThree before after result = IsErrOf result Flash → HasRisenBy 3 before.device.faults after.device.faults

-- After a job on this number the last call that the flash failed was of it, where the answer is that fault; else it was of this number, or
-- is the one before.
pub record NamesNumber {T : Type 0} (number : ℕ) (before after : BlocksState) (result : Result T BlockFault) : Type 0 where
  pub flash : IsErrOf result Flash → after.last_failed ≡ Some number
  pub either : (after.last_failed ≡ before.last_failed) ⊎ (after.last_failed ≡ Some number)

-- The last call that the flash failed was of a copy of this block.
abbrev pub HasFailedCopy : ℕ → BlocksState → Type 0
HasFailedCopy id after = (after.last_failed ≡ Some (driver_number id 0)) ⊎ (after.last_failed ≡ Some (driver_number id 1))

-- One number holds what was asked after Ok, what it held or what was asked after a fault, and every other what it held.
pub record Gives (before after : BlocksState) (number : ℕ) (asked : Content) (size : ℕ) (result : Result (Unit {0}) BlockFault) : Type 0 where
  pub holds_asked : OnOk result (after.value number ≡ asked)
  pub either : IsEither before after number asked
  pub others : OthersKept number before after
  pub full : (live needed : ℕ) → IsErrOf result (Full live needed) → IsFull after size live needed
  pub spent : IsErrOf result SequenceSpent → IsTrue (after.is_stuck number size)

-- Both copies hold what was asked after Ok; after a fault each holds what it held or what was asked, and the second has changed
-- only where the first holds what was asked; every other number holds what it held.
pub record GivesBoth (before after : BlocksState) (id : ℕ) (asked : Content) (size : ℕ) (result : Result (Unit {0}) BlockFault) : Type 0 where
  pub first : OnOk result (after.value (driver_number id 0) ≡ asked)
  pub second : OnOk result (after.value (driver_number id 1) ≡ asked)
  pub either : (IsEither before after (driver_number id 0) asked × (after.value (driver_number id 1) ≡ before.value (driver_number id 1)))
      ⊎ ((after.value (driver_number id 0) ≡ asked) × IsEither before after (driver_number id 1) asked)
  pub others : (other : ℕ) → other ≢ driver_number id 0 → other ≢ driver_number id 1 → after.value other ≡ before.value other
  pub full : (live needed : ℕ) → IsErrOf result (Full live needed) → IsFull after size live needed
  pub spent : IsErrOf result SequenceSpent → IsTrue (after.is_stuck (driver_number id 0) size) ⊎ IsTrue (after.is_stuck (driver_number id 1) size)

-- One job of at most three tries.
abbrev pub GivesInAJob : ℕ → Content → ℕ → BlocksState → BlocksState → Result (Unit {0}) BlockFault → Type 0
GivesInAJob number asked size before after result = Tries 3 (Changing number asked size) before after result

-- A job on the first copy, and one on the second only where the first answered Ok.
abbrev pub GivesInTwoJobs : ℕ → Content → ℕ → BlocksState → BlocksState → Result (Unit {0}) BlockFault → Type 0
GivesInTwoJobs id asked size before after result =
    (GivesInAJob (driver_number id 0) asked size before after result × IsErr result)
    ⊎ ((between : BlocksState) × GivesInAJob (driver_number id 0) asked size before between (Ok tt) × GivesInAJob (driver_number id 1) asked size between after result)

-- A job that mounts: no block changes, and no sequence number is used.
pub record MountsInAJob (before after : BlocksState) (result : Result (Unit {0}) BlockFault) : Type 0 where
  pub tries : Tries 3 Mounts before after result
  pub values : SameValues before after
  pub calls : BlockCalls before after result
  pub never_full : NeverFull result
  pub stale : Settles result after
  pub spent : SameSpent before after
  pub three : FlashTakesThree before after result

-- A job that gives a number a content.
pub record GivesNumber (number : ℕ) (asked : Content) (size : ℕ) (before after : BlocksState) (result : Result (Unit {0}) BlockFault) : Type 0 where
  pub job : GivesInAJob number asked size before after result
  pub gives : Gives before after number asked size result
  pub calls : BlockCalls before after result
  pub stale : Settles result after
  pub three : FlashTakesThree before after result
  pub named : NamesNumber number before after result

-- One job or two that give both copies a content.
pub record GivesCopies (id : ℕ) (asked : Content) (size : ℕ) (before after : BlocksState) (result : Result (Unit {0}) BlockFault) : Type 0 where
  pub jobs : GivesInTwoJobs id asked size before after result
  pub gives : GivesBoth before after id asked size result
  pub calls : BlockCalls before after result
  pub stale : Settles result after
  pub three : FlashTakesThree before after result
  pub named : IsErrOf result Flash → HasFailedCopy id after

-- Missing or invalid.
abbrev pub HasNoBytes : Content → Type 0
HasNoBytes missing = Unit {0}
HasNoBytes invalid = Unit {0}
HasNoBytes (bytes held) = ⊥

-- A read gave bytes.
abbrev pub GaveBytes : Got → Type 0
GaveBytes (Bytes length copy) = Unit {0}
GaveBytes Missing = ⊥
GaveBytes Invalid = ⊥

-- What a read of this copy alone answers, with the bytes at the start of out and the rest of out as it was.
abbrev pub GotOf : ℕ → Content → Got → List ℕ → List ℕ → Type 0
GotOf copy content (Bytes length from) before after = (from ≡ copy) × ReadsContent content (FoundBytes length) before after
GotOf copy content Missing before after = ReadsContent content FoundMissing before after
GotOf copy content Invalid before after = ReadsContent content FoundInvalid before after

-- The first copy's bytes; the second's, where the first has none or could not be read in three tries; or, where neither has
-- bytes, what the first is.
abbrev pub GotOfBoth : BlocksState → BlocksState → ℕ → Got → List ℕ → List ℕ → Type 0
GotOfBoth before after id (Bytes length from) out_before out_after =
    GotOf 1 (before.value (driver_number id 0)) (Bytes length from) out_before out_after
    ⊎ (GotOf 2 (before.value (driver_number id 1)) (Bytes length from) out_before out_after
    × (HasNoBytes (before.value (driver_number id 0)) ⊎ HasRisenBy 3 before.device.faults after.device.faults))
GotOfBoth before after id Missing out_before out_after = GotOf 1 (before.value (driver_number id 0)) Missing out_before out_after
    × HasNoBytes (before.value (driver_number id 1))
GotOfBoth before after id Invalid out_before out_after = GotOf 1 (before.value (driver_number id 0)) Invalid out_before out_after
    × HasNoBytes (before.value (driver_number id 1))

-- The second copy's bytes, or, where it has none, what the first gave.
abbrev pub GotOfSecond : Content → Option Got → Got → List ℕ → List ℕ → Type 0
GotOfSecond content first got before after =
    (GotOf 2 content got before after × GaveBytes got) ⊎ ((first ≡ Some got) × HasNoBytes content × (after ≡ before))
