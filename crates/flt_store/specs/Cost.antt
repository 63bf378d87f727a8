-- What the writes of a save cost, in operations of the device.
use Rattle.std.specs.Prelude.{ℕ, ◌≤◌, List, [], length, sum_by, if◌then◌else◌, Option, Some, None, IsFalse}
use Rattle.std.specs.List.{range_with_len}
use Rattle.flt_flash.specs.Blocks.{BlocksState, record_pages}
use Rattle.flt_flash.specs.Calls.{NoFault, NoErase, CostsAtMost, switch_cost}
use Rattle.flt_config.specs.declared.config.Config.{Config}
use Rattle.flt_store_model.specs.declared.commit.Commit.{Commit}
use Rattle.flt_store_model.specs.Layout.{first_part}
use Rattle.flt_store_model.specs.Successor.{is_written, changed_pages}

-- A record of at most 96 bytes, with a switch of sectors before it where one is needed, costs at most this many.
abbrev pub SwitchesWithin : Option ℕ → ℕ → Type 0
SwitchesWithin room most = (size : ℕ) → size ≤ 96 → switch_cost room size ≤ most

-- Writes on a driver that was not stale, in which no operation failed: the pages of their records, where no sector was erased, and
-- a limit in any case, where each costs at most this many.
pub record Spends (most : ℕ) (before after : BlocksState) (pages limit : ℕ) : Type 0 where
  -- Without a fault or an erase they cost the pages of their records.
  pub at_the_end : IsFalse before.is_stale → NoFault before after → NoErase before after → CostsAtMost pages before after
  -- Without a fault they cost no more than the limit.
  pub at_most : SwitchesWithin before.room most → IsFalse before.is_stale → NoFault before after → CostsAtMost limit before after

-- The weight of a block where it is written for the next commit, else 0.
abbrev pub weight_written : Config → Option Commit → Commit → (ℕ → ℕ) → ℕ → ℕ
weight_written c current next weight id = if is_written c current next id then weight id else 0

-- What a block of the next commit costs where it is written, where each record costs at most this many operations; else nothing.
abbrev pub SpendsOnBlock : Config → Option Commit → Commit → (ℕ → List ℕ) → ℕ → BlocksState → BlocksState → Type 0
SpendsOnBlock c current next bytes_of id before after = (most : ℕ)
    → Spends most before after (weight_written c current next (λ id. record_pages (length (bytes_of id))) id) (weight_written c current next (λ id. most) id)

-- The weight of this many blocks.
unfoldable pub written_sum : Config → Option Commit → Commit → (ℕ → ℕ) → ℕ → ℕ
written_sum c current next weight count = sum_by (weight_written c current next weight) (range_with_len first_part count)

-- The pages of the records of the blocks that a save writes: all in the first save, else those whose bytes changed.
abbrev pub pages_to_write : Config → Option Commit → (ℕ → List ℕ) → (ℕ → List ℕ) → ℕ
pages_to_write c None before after = changed_pages c (λ id. []) after
pages_to_write c (Some commit) before after = changed_pages c before after
