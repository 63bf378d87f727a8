-- A job of a number of tries makes that number of calls of the driver.
use Rattle.std.proofs.Common.{ℕ, zero, suc, Result, inl, inr, arith}
use Rattle.flt_flash.specs.Blocks.{BlocksState}
use Rattle.flt_flash.specs.Calls.{CountsCall}
use Rattle.flt_flash.specs.declared.blocks.BlockFault.{BlockFault}
use Rattle.flt_nvm.specs.Tries.{Tries, CallsAtMost}

module _ {T : Type 0} (call : BlocksState → BlocksState → Result T BlockFault → Type 0)
    (counts : (before after : BlocksState) (result : Result T BlockFault) → call before after result → CountsCall before after) where
  counts_one : (more : ℕ) (before after : BlocksState) → CountsCall before after → CallsAtMost (suc more) before after
  counts_one more before after one = record { least = omega (arith, one); most = omega (arith, one) }

  counts_more : (limit : ℕ) (before between after : BlocksState) → CountsCall before between → CallsAtMost limit between after → CallsAtMost (suc limit) before after
  counts_more limit before between after one rest = record { least = omega (arith, one, rest.least); most = omega (arith, one, rest.most) }

  pub tries_counted : (limit : ℕ) (before after : BlocksState) (result : Result T BlockFault) → Tries limit call before after result → CallsAtMost limit before after
  unfolding Tries
  tries_counted zero before after result tries = absurd tries
  tries_counted (suc zero) before after result tries = counts_one 0 before after (counts before after result tries)
  tries_counted (suc (suc more)) before after result (inl ends) = counts_one (suc more) before after (counts before after result ends.0)
  tries_counted (suc (suc more)) before after result (inr (between, failed, rest)) =
      counts_more (suc more) before between after (counts before between _ failed) (tries_counted (suc more) between after result rest)
