-- A job on one block of a driver: one call, tried again where the flash failed.
use Rattle.std.specs.Prelude.{◌⊎◌, ◌+◌, ◌≤◌, ℕ, zero, suc, Result, Err, IsErrOf}
use Rattle.flt_flash.specs.Content.{Content}
use Rattle.flt_flash.specs.State.{HasRisenBy}
use Rattle.flt_flash.specs.Blocks.{BlocksState}
use Rattle.flt_flash.specs.Calls.{BlockCalls, CountsCallOf, CountsMount, Changes, Costs, MountCosts, NeverFull, ReadCosts, ReadsAlone, SameSpent, SameValues, Settles}
use Rattle.flt_flash.specs.declared.blocks.BlockFault.{BlockFault}
use Rattle.flt_flash.specs.declared.blocks.BlockFault.TheVariants.{Flash}

-- A job of at most this many tries: the last one, or one that the flash did not fail, or one that it failed and then a job of one try less.
unfoldable pub Tries : {T : Type 0} → ℕ → (BlocksState → BlocksState → Result T BlockFault → Type 0) → BlocksState → BlocksState → Result T BlockFault → Type 0
Tries zero try before after result = ⊥
Tries (suc zero) try before after result = try before after result
Tries (suc (suc more)) try before after result =
    (try before after result × (IsErrOf result Flash → ⊥))
    ⊎ ((between : BlocksState) × try before between (Err Flash) × Tries (suc more) try between after result)

-- One mount.
pub record Mounts (before after : BlocksState) (result : Result (Unit {0}) BlockFault) : Type 0 where
  pub values : SameValues before after
  pub calls : BlockCalls before after result
  pub once : CountsMount before after
  pub never_full : NeverFull result
  pub stale : Settles result after
  pub spent : SameSpent before after
  pub costs : MountCosts before after

-- One write or invalidate, which gives a block this content by a record of this length.
pub record Changing (block : ℕ) (asked : Content) (size : ℕ) (before after : BlocksState) (result : Result (Unit {0}) BlockFault) : Type 0 where
  pub changes : Changes before after block asked size result
  pub calls : BlockCalls before after result
  pub once : CountsCallOf block before after result
  pub stale : Settles result after
  pub costs : Costs before after size

-- One read of a block.
pub record Looks {T : Type 0} (block : ℕ) (before after : BlocksState) (result : Result T BlockFault) : Type 0 where
  pub reads : ReadsAlone before after result
  pub once : CountsCallOf block before after result
  pub costs : ReadCosts before after block

-- The driver counted one call at least, and this many at most.
pub record CallsAtMost (limit : ℕ) (before after : BlocksState) : Type 0 where
  pub least : HasRisenBy 1 before.calls after.calls
  pub most : after.calls ≤ before.calls + limit

-- Whatever a job of three tries does and answers, it makes three calls of the driver at most.
abbrev pub TakesThreeCalls : {T : Type 0} → (BlocksState → BlocksState → Result T BlockFault → Type 0) → Type 0
TakesThreeCalls {T} call = (before after : BlocksState) (result : Result T BlockFault) → Tries 3 call before after result → CallsAtMost 3 before after
