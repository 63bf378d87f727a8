-- What a call on a block by its identifier leaves: of a native block and of a dataset what a job on its number leaves, of a
-- redundant block what jobs on both copies leave. No call changes the table.
use Rattle.std.specs.Prelude.{◌≡◌, ◌≢◌, ◌⊎◌, ◌-◌, ℕ, List, Some, Result, IsFalse, IfOk, OnOk, OnErr, IsErrOf}
use Rattle.flt_flash.specs.Content.{Content}
use Rattle.flt_flash.specs.State.{HasRisenBy}
use Rattle.flt_flash.specs.Calls.{BlockCalls, ReadCosts, ReadsAlone, Settles}
use Rattle.flt_flash.specs.declared.blocks.Blocks.{Ghosts}
use Rattle.flt_flash.specs.declared.blocks.BlockFault.{BlockFault}
use Rattle.flt_flash.specs.declared.blocks.BlockFault.TheVariants.{Flash, Full, SequenceSpent}
use Rattle.flt_nvm.specs.declared.got.Got.{Got}
use Rattle.flt_nvm.specs.declared.nvm.Nvm.{Nvm}
use Rattle.flt_nvm.specs.Table.{driver_number, AsKept}
use Rattle.flt_nvm.specs.Leaves.{FlashTakesThree, Gives, GivesBoth, GivesInAJob, GivesInTwoJobs, GotOf, GotOfBoth, HasFailedCopy, NamesNumber}
use Rattle.flt_nvm.specs.Reads.{IsUnmended, IsUnread, IsUnreadable, LooksInAJob, LooksInTwoJobs, MendsInTwoJobs, ReadsBothCosts}
use Rattle.flt_nvm.specs.Driver.{driver_of, table_of}

module _ {B : Type 0} {b : Ghosts B} where
  -- A write or an invalidate, which gives a block a content.
  pub record GivesBlock (id index : ℕ) (asked : Content) (size : ℕ) (before after : Nvm B b) (result : Result (Unit {0}) BlockFault) : Type 0 where
    pub jobs : AsKept (table_of before) id (GivesInAJob (driver_number id index) asked size (driver_of before) (driver_of after) result)
        (GivesInTwoJobs id asked size (driver_of before) (driver_of after) result)
    pub gives : AsKept (table_of before) id (Gives (driver_of before) (driver_of after) (driver_number id index) asked size result)
        (GivesBoth (driver_of before) (driver_of after) id asked size result)
    pub calls : BlockCalls (driver_of before) (driver_of after) result
    pub stale : Settles result (driver_of after)
    pub three : FlashTakesThree (driver_of before) (driver_of after) result
    pub named : IsErrOf result Flash → AsKept (table_of before) id ((driver_of after).last_failed ≡ Some (driver_number id index)) (HasFailedCopy id (driver_of after))
    pub table : table_of after ≡ table_of before

  -- A read of a block.
  pub record ReadsBlock (id index : ℕ) (before after : Nvm B b) (out_before out_after : List ℕ) (result : Result Got BlockFault) : Type 0 where
    pub jobs : AsKept (table_of before) id (LooksInAJob (driver_number id index) (driver_of before) (driver_of after) result)
        (LooksInTwoJobs id (driver_of before) (driver_of after) result)
    pub got : IfOk result (λ got. AsKept (table_of before) id (GotOf 1 ((driver_of before).value (driver_number id index)) got out_before out_after)
        (GotOfBoth (driver_of before) (driver_of after) id got out_before out_after))
    pub nothing : OnErr result (out_after ≡ out_before)
    pub reads : ReadsAlone (driver_of before) (driver_of after) result
    pub costs : AsKept (table_of before) id (ReadCosts (driver_of before) (driver_of after) (driver_number id index))
        (ReadsBothCosts (driver_of before) (driver_of after) id)
    -- Of a redundant block Flash comes only where neither copy gave its bytes.
    pub unread : IsErrOf result Flash → AsKept (table_of before) id (IsUnread (driver_number id index) (driver_of before) (driver_of after))
        (IsUnreadable (driver_of before) (driver_of after) id)
    pub three : FlashTakesThree (driver_of before) (driver_of after) result
    pub table : table_of after ≡ table_of before

  -- A read of one copy of a redundant block, 1 or 2.
  pub record ReadsCopy (id copy : ℕ) (before after : Nvm B b) (out_before out_after : List ℕ) (result : Result Got BlockFault) : Type 0 where
    pub job : LooksInAJob (driver_number id (copy - 1)) (driver_of before) (driver_of after) result
    pub got : IfOk result (λ got. GotOf copy ((driver_of before).value (driver_number id (copy - 1))) got out_before out_after)
    pub nothing : OnErr result (out_after ≡ out_before)
    pub reads : ReadsAlone (driver_of before) (driver_of after) result
    pub costs : ReadCosts (driver_of before) (driver_of after) (driver_number id (copy - 1))
    pub three : FlashTakesThree (driver_of before) (driver_of after) result
    pub named : NamesNumber (driver_number id (copy - 1)) (driver_of before) (driver_of after) result
    pub table : table_of after ≡ table_of before

  -- A repair by one copy, 1 or 2, which holds these bytes: the other one is given them where it does not hold them or can't be read.
  pub record Repairs (id copy : ℕ) (held : Content) (size : ℕ) (before after : Nvm B b) (result : Result (Unit {0}) BlockFault) : Type 0 where
    pub first : OnOk result ((driver_of after).value (driver_number id 0) ≡ held)
    pub second : OnOk result ((driver_of after).value (driver_number id 1) ≡ held)
    pub gives : Gives (driver_of before) (driver_of after) (driver_number id (2 - copy)) held size result
    pub calls : BlockCalls (driver_of before) (driver_of after) result
    pub settled : OnOk result (IsFalse (driver_of after).is_stale)
    pub jobs : MendsInTwoJobs Got (driver_number id (2 - copy)) held size (driver_of before) (driver_of after) result
    pub three : FlashTakesThree (driver_of before) (driver_of after) result
    -- Flash comes only where the other copy could be neither read nor written, or needs to be written and could not.
    pub unmended : IsErrOf result Flash → IsUnmended (driver_of before) (driver_of after) (driver_number id (2 - copy)) held
    -- A copy that holds the bytes and could be read is not written.
    pub full : (live needed : ℕ) → IsErrOf result (Full live needed)
        → ((driver_of before).value (driver_number id (2 - copy)) ≢ held) ⊎ HasRisenBy 3 (driver_of before).device.faults (driver_of after).device.faults
    pub spent : IsErrOf result SequenceSpent
        → ((driver_of before).value (driver_number id (2 - copy)) ≢ held) ⊎ HasRisenBy 3 (driver_of before).device.faults (driver_of after).device.faults
    pub table : table_of after ≡ table_of before
