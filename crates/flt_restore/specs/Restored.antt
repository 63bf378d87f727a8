-- What a start-up finds in an image.
use Rattle.std.specs.Prelude.{◌≡◌, ◌⊎◌, ℕ, ◌-◌, ◌≤◌, Option, Some, None, Result, Ok, Err, IsTrue, IsFalse}
use Rattle.flt_flash.specs.Content.{Content, missing, invalid, bytes}
use Rattle.flt_flash.specs.State.{HasRisenBy}
use Rattle.flt_flash.specs.Blocks.{BlocksState}
use Rattle.flt_config.specs.declared.config.Config.{Config}
use Rattle.flt_config.specs.declared.persist.Persist.{Persist}
use Rattle.flt_store_model.specs.declared.mark.Mark.{Mark}
use Rattle.flt_store_model.specs.Layout.{commit_id, number_of, first_commit, second_commit}
use Rattle.flt_store_model.specs.Form.{mark_of, mark_bytes_1}
use Rattle.flt_store_model.specs.Reading.{commit_in}
use Rattle.flt_store_model.specs.Holding.{Generation, Fault, damaged, other, held, spare, either_copy, only_bytes}
use Rattle.flt_restore.specs.declared.commit.CommitCopy.{CommitCopy}
use Rattle.flt_restore.specs.declared.fault.StartFault.{StartFault}
use Rattle.flt_restore.specs.declared.fault.StartFault.TheVariants.{Flash, Damaged, OtherConfig, SequenceSpent}

-- A block that has bytes.
abbrev pub HasBytes : Content → Type 0
HasBytes missing = ⊥
HasBytes invalid = ⊥
HasBytes (bytes raw) = Unit {0}

-- This is what the image holds; or, if the flash failed three times, what it holds by the second copy of its commit, which has bytes.
abbrev pub IsJudged : Config → BlocksState → BlocksState → Result Generation Fault → Type 0
IsJudged c before after judged =
    (held c before.value ≡ judged)
    ⊎ ((spare c before.value ≡ judged) × HasBytes (before.value second_commit) × HasRisenBy 3 before.device.faults after.device.faults)

-- The generation of this state that the commit names; without a commit it is number 0.
abbrev pub generation : Option CommitCopy → Persist → Generation
generation None state = record { number = 0; state = state }
generation (Some found) state = record { number = found.commit.generation; state = state }

-- The copy has these bytes, from which this commit is read.
pub record IsCopy (c : Config) (value : ℕ → Content) (found : CommitCopy) : Type 0 where
  pub least : 1 ≤ found.copy
  pub most : found.copy ≤ 2
  pub holds : value (number_of commit_id (found.copy - 1)) ≡ bytes found.bytes.items
  pub read : commit_in c found.bytes.items ≡ Some found.commit

-- The commit that this content of a copy has; none if it is missing.
abbrev pub IsCommitOf : Config → (ℕ → Content) → Content → Option CommitCopy → Type 0
IsCommitOf c value content None = content ≡ missing
IsCommitOf c value content (Some found) = (content ≡ bytes found.bytes.items) × IsCopy c value found

-- The image holds the generation of this commit and state; or, if the flash failed three times, it does so by the second copy of
-- its commit, which has bytes; the commit is that of the copy that decides.
abbrev pub IsRestored : Config → BlocksState → BlocksState → Option CommitCopy → Persist → Type 0
IsRestored c before after commit state =
    ((held c before.value ≡ Ok (generation commit state))
    × IsCommitOf c before.value (either_copy (before.value first_commit) (before.value second_commit)) commit)
    ⊎ ((spare c before.value ≡ Ok (generation commit state)) × IsCommitOf c before.value (only_bytes (before.value second_commit)) commit
    × HasBytes (before.value second_commit) × HasRisenBy 3 before.device.faults after.device.faults)

-- A mark that has to be written: it is missing, or in version 1.
abbrev pub IsMarkDue : Mark → Content → Type 0
IsMarkDue mark content = (content ≡ missing) ⊎ (content ≡ bytes (mark_bytes_1 mark))

-- The generation that was judged, by its commit, and sequence numbers left.
pub record Restores (c : Config) (before after : BlocksState) (commit : Option CommitCopy) (state : Persist) : Type 0 where
  pub restored : IsRestored c before after commit state
  pub usable : IsFalse after.is_spent

-- A fault has its cause: three faults of the flash, what was judged, or the last sequence number if a generation was judged.
abbrev pub Refuses : Config → BlocksState → BlocksState → StartFault → Type 0
Refuses c before after Flash = HasRisenBy 3 before.device.faults after.device.faults
Refuses c before after (Damaged place) = IsJudged c before after (Err (damaged place))
Refuses c before after (OtherConfig found wanted) = IsJudged c before after (Err (other found)) × (wanted ≡ mark_of c)
Refuses c before after SequenceSpent = ((g : Generation) × IsJudged c before after (Ok g)) × IsTrue after.is_spent
