-- What the repair of the commit's copies needs, and what it leaves.
use Rattle.std.specs.Prelude.{◌≡◌, ℕ, ◌-◌, ◌≤◌, List, Option, Some, Result, IfOk, IfSome, IsErrOf, IsSome, OnErr}
use Rattle.flt_flash.specs.Content.{Content, bytes}
use Rattle.flt_flash.specs.Blocks.{BlocksState}
use Rattle.flt_flash.specs.Calls.{OthersKept}
use Rattle.flt_flash.specs.declared.blocks.BlockFault.{BlockFault}
use Rattle.flt_flash.specs.declared.blocks.BlockFault.TheVariants.{Flash, SequenceSpent}
use Rattle.flt_nvm.specs.Leaves.{IsEither}
use Rattle.flt_nvm.specs.Reads.{IsUnmended}
use Rattle.flt_config.specs.declared.config.Config.{Config}
use Rattle.flt_store_model.specs.declared.commit.Commit.{Commit}
use Rattle.flt_store_model.specs.Layout.{commit_id, number_of}
use Rattle.flt_store_model.specs.Form.{IsCommit}
use Rattle.flt_store_model.specs.Reading.{commit_in}
use Rattle.flt_store_model.specs.Holding.{Generation, OldOrNew}
use Rattle.flt_store.specs.Cause.{IsWithinOwn, StoreWrites}
use Rattle.flt_store.specs.Dark.{IsUnrestarted}
use Rattle.flt_store.specs.Keeping.{IsOfFirst}
use Rattle.flt_store.specs.Spent.{IsCommitStuck}
use Rattle.flt_store.specs.Started.{HasMark, IsStarted, StartsEither}

-- This copy of the commit has these bytes, from which a commit is read.
pub record HasReadCopy (c : Config) (value : ℕ → Content) (copy : ℕ) (raw : List ℕ) : Type 0 where
  -- The copy is 1 or more.
  pub least : 1 ≤ copy
  -- It is 2 or less.
  pub most : copy ≤ 2
  -- It holds these bytes.
  pub held : value (number_of commit_id (copy - 1)) ≡ bytes raw
  -- A commit is read from them.
  pub read : IsSome (commit_in c raw)

-- The commit that is read from these bytes.
pub record IsCommitRead (c : Config) (raw : List ℕ) (commit : Commit) : Type 0 where
  -- The commit is read from these bytes.
  pub read : commit_in c raw ≡ Some commit
  -- It is well formed.
  pub form : IsCommit c commit

-- The other copy was written with these bytes, or holds what it held, and no other block changed.
pub record WritesOtherCopy {T : Type 0} (c : Config) (copy : ℕ) (raw : List ℕ) (before after : BlocksState) (result : Result T BlockFault) : Type 0 where
  -- The other copy holds these bytes or what it held.
  pub other : IsEither before after (number_of commit_id (2 - copy)) (bytes raw)
  -- No other block changed.
  pub others : OthersKept (number_of commit_id (2 - copy)) before after
  -- No block is longer than the configuration may write there.
  pub within : IsWithinOwn c before.value after.value
  -- It finds no sequence number only if the driver has none left for the commit.
  pub stuck : IsErrOf result SequenceSpent → IsCommitStuck before after

-- The other copy was made to hold what this one has, by which the image holds a generation; or that failed for its cause.
pub record RepairsCopy (c : Config) (g : Generation) (copy : ℕ) (raw : List ℕ) (before after : BlocksState) (result : Result Commit BlockFault) : Type 0 where
  -- After Ok the image holds the generation by both copies of the commit.
  pub started : HasMark c before.value → IfOk result (λ commit. IsStarted c after.value (Some commit) g)
  -- It fails by the flash only if the other copy could not be made equal.
  pub unmended : IsErrOf result Flash → IsUnmended before after (number_of commit_id (2 - copy)) (bytes raw)
  -- Each other fault has its cause.
  pub writes : StoreWrites before after result

-- Both copies were made to name one of the two generations of a sound image; or that failed for its cause, and left it sound.
pub record Restarts (c : Config) (held spare : Generation) (before after : BlocksState) (result : Result (Option Commit) BlockFault) : Type 0 where
  -- After Ok both copies name one of the two generations.
  pub started : HasMark c before.value → IfOk result (λ commit. StartsEither c before after commit held spare)
  -- After Err the image holds the two generations as before.
  pub failed : (new : Generation) → OnErr result (OldOrNew c after.value held spare new)
  -- It fails by the flash only if the commit could not be made whole.
  pub unrestarted : IsErrOf result Flash → IsUnrestarted before after
  -- Each other fault has its cause.
  pub writes : StoreWrites before after result

-- The commit that both copies have, if any: it is well formed, and that of the first copy unless the flash failed three times.
pub record IsCommitFound (c : Config) (before after : BlocksState) (commit : Option Commit) : Type 0 where
  -- It is well formed.
  pub form : IfSome commit (IsCommit c)
  -- It is that of the first copy unless the flash failed three times.
  pub first : IsOfFirst c before after commit
