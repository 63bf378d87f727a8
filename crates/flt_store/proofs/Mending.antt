-- A repair of the commit's copies by one that was read.
use Rattle.std.proofs.Common.{◌≡◌, ℕ, ◌-◌, ◌≤◌, List, length, Some, Result, Ok, arith}
use Rattle.std.specs.Prelude.{IsErrOf}
use Rattle.flt_flash.specs.Content.{bytes}
use Rattle.flt_flash.specs.declared.blocks.Blocks.{Ghosts}
use Rattle.flt_flash.specs.declared.blocks.BlockFault.{BlockFault}
use Rattle.flt_flash.specs.declared.blocks.BlockFault.TheVariants.{Flash, SequenceSpent}
use Rattle.flt_config.specs.declared.config.Config.{Config}
use Rattle.flt_nvm.specs.declared.nvm.Nvm.{Nvm}
use Rattle.flt_nvm.specs.Blocks.{Repairs}
use Rattle.flt_nvm.specs.Driver.{driver_of}
use Rattle.flt_store_model.specs.declared.commit.Commit.{Commit}
use Rattle.flt_store_model.specs.Layout.{commit_id, number_of, application_number}
use Rattle.flt_store_model.specs.Reading.{commit_in}
use Rattle.flt_store_model.specs.Form.{commit_length}
use Rattle.flt_store_model.specs.Holding.{Generation, Holds, IsSound, OldOrNew, SameApplications}
use Rattle.flt_store.specs.Cause.{IsWithinOwn, StoreWrites}
use Rattle.flt_store.specs.Dark.{IsCommitUnmended}
use Rattle.flt_store.specs.Spent.{IsCommitStuck}
use Rattle.flt_store.specs.Started.{HasMark, IsStarted}
use Rattle.flt_store.proofs.Causes.{one_write, borne_stays}
use Rattle.flt_store.proofs.Copies.{at_copy, tried_by}
use Rattle.flt_store.proofs.Dark.{unmended_at}
use Rattle.flt_store.proofs.Repairing.{repaired, copy_within, bytes_of_commit, but_for_copy}
use Rattle.flt_store.proofs.Running.{taken}

module _ {B : Type 0} {b : Ghosts B} where
  -- The copies of the commit were repaired by one that has these bytes, from which this commit is read.
  pub record Mends (c : Config) (before after : Nvm B b) (copy : ℕ) (raw : List ℕ) (commit : Commit) (result : Result (Unit {0}) BlockFault) : Type 0 where
    pub least : 1 ≤ copy
    pub most : copy ≤ 2
    pub holds : (driver_of before).value (number_of commit_id (copy - 1)) ≡ bytes raw
    pub read : commit_in c raw ≡ Some commit
    pub repairs : Repairs commit_id copy (bytes raw) (length raw) before after result

module _ {B : Type 0} {b : Ghosts B} {c : Config} {before after : Nvm B b} {copy : ℕ} {raw : List ℕ} {commit : Commit} {result : Result (Unit {0}) BlockFault} (mends : Mends c before after copy raw commit result) where
  size : (1 ≤ length raw) × (length raw ≤ commit_length)
  size = bytes_of_commit c raw commit mends.read

  pub mended_within : IsWithinOwn c (driver_of before).value (driver_of after).value
  mended_within = copy_within c (driver_of before).value (driver_of after).value raw copy mends.least mends.most size.1 mends.repairs.gives.either mends.repairs.gives.others

  pub mended_writes : StoreWrites (driver_of before) (driver_of after) result
  mended_writes = one_write (driver_of before) (driver_of after) result mends.repairs.calls mends.repairs.three _ _ _ (let short = size.1 in omega (arith, short)) mends.repairs.gives

  pub mended_started : result ≡ Ok tt → (g : Generation) → HasMark c (driver_of before).value → Holds c (driver_of before).value (bytes raw) g → IsStarted c (driver_of after).value (Some commit) g
  mended_started done g mark holds =
      repaired c (driver_of before).value (driver_of after).value (but_for_copy (driver_of before).value (driver_of after).value copy mends.least mends.most mends.repairs.gives.others)
      (borne_stays c (driver_of before).value (driver_of after).value mended_within holds.excess) raw commit g mark mends.read holds (taken result done mends.repairs.first) (taken result done mends.repairs.second)

  pub mended_tried : (h s new : Generation) → IsSound c (driver_of before).value h s → OldOrNew c (driver_of after).value h s new
  mended_tried h s new sound =
      tried_by c (driver_of before) (driver_of after) raw copy (at_copy (driver_of before).value raw copy mends.least mends.most mends.holds) h s new sound mended_within mends.repairs.gives.either mends.repairs.gives.others

  pub mended_applications : SameApplications (driver_of before).value (driver_of after).value
  mended_applications block below = mends.repairs.gives.others (application_number block) (λ same. omega (arith, same))

  pub commit_unmended : IsErrOf result Flash → IsCommitUnmended (driver_of before) (driver_of after)
  commit_unmended told = unmended_at (driver_of before) (driver_of after) raw copy mends.least mends.most mends.holds (mends.repairs.unmended told)

  pub commit_stuck : IsErrOf result SequenceSpent → IsCommitStuck (driver_of before) (driver_of after)
  commit_stuck told = record {
    copy = copy;
    least = mends.least;
    most = mends.most;
    raw = raw;
    holds = mends.holds;
    needed = mends.repairs.spent told;
    stuck = mends.repairs.gives.spent told;
  }
