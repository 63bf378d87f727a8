-- Why a start-up answers that no sequence number is left.
use Rattle.std.specs.Prelude.{◌≡◌, ◌≢◌, ◌⊎◌, ℕ, ◌-◌, ◌≤◌, List, length, IsTrue}
use Rattle.flt_flash.specs.Content.{bytes}
use Rattle.flt_flash.specs.Blocks.{BlocksState}
use Rattle.flt_config.specs.declared.config.Config.{Config}
use Rattle.flt_store_model.specs.Layout.{commit_id, mark_number, number_of}
use Rattle.flt_store_model.specs.Form.{mark_of, mark_bytes}
use Rattle.flt_store.specs.Cause.{FailsThrice}
use Rattle.flt_restore.specs.Restored.{IsMarkDue}

-- The mark had to be written, and its record can't be written any more.
pub record IsMarkStuck (c : Config) (before after : BlocksState) : Type 0 where
  -- The mark had to be written.
  pub due : IsMarkDue (mark_of c) (before.value mark_number)
  -- The driver has no sequence number left for its record.
  pub stuck : IsTrue (after.is_stuck mark_number (length (mark_bytes (mark_of c))))

-- The other copy of the commit holds other bytes, or the flash failed three times, and its record can't be written any more.
pub record IsCommitStuck (before after : BlocksState) : Type 0 where
  -- The copy that was read, the first or the second.
  pub copy : ℕ
  -- It is 1 or more.
  pub least : 1 ≤ copy
  -- It is 2 or less.
  pub most : copy ≤ 2
  -- Its bytes.
  pub raw : List ℕ
  -- It holds them.
  pub holds : before.value (number_of commit_id (copy - 1)) ≡ bytes raw
  -- The other copy holds other bytes, or the flash failed three times.
  pub needed : (before.value (number_of commit_id (2 - copy)) ≢ bytes raw) ⊎ FailsThrice before after
  -- The driver has no sequence number left for its record.
  pub stuck : IsTrue (after.is_stuck (number_of commit_id (2 - copy)) (length raw))

-- A record that a generation needs in the image can't be written any more.
abbrev pub IsBegunStuck : Config → BlocksState → BlocksState → Type 0
IsBegunStuck c before after = IsMarkStuck c before after ⊎ IsCommitStuck before after

-- The last sequence number was in use before, or a record that the start-up had to write can't be written any more.
abbrev pub IsOutOfNumbers : Config → BlocksState → BlocksState → Type 0
IsOutOfNumbers c before after = IsTrue before.is_spent ⊎ IsBegunStuck c before after
