-- What a call on a driver that is not stale costs.
use Rattle.std.proofs.Common.{◌≡◌, ◌+◌, ◌≤◌, ℕ, Bool, false, List, Result, arith}
use Rattle.std.specs.Prelude.{IsErrOf}
use Rattle.flt_flash.specs.Blocks.{record_pages}
use Rattle.flt_flash.specs.Calls.{BlockCalls, Costs, CostsAtMost, NoFault}
use Rattle.flt_flash.specs.State.{FlashState}
use Rattle.flt_flash.specs.declared.blocks.BlockFault.{BlockFault}
use Rattle.flt_flash.specs.declared.blocks.BlockFault.TheVariants.{Flash}
use Rattle.flt_ea.specs.Driver.{state_by}

module _ {T : Type 0} (numbers still_numbers : List ℕ) (before after : FlashState) (was_stale had_mounted is_stale has_mounted : Bool) (result : Result T BlockFault)
    (calls : BlockCalls (state_by numbers was_stale had_mounted before) (state_by still_numbers is_stale has_mounted after) result) (limit : ℕ)
    (spends : was_stale ≡ false → (IsErrOf result Flash → ⊥) → after.operations ≤ before.operations + limit) where
  pub limit_kept : was_stale ≡ false → NoFault (state_by numbers was_stale had_mounted before) (state_by still_numbers is_stale has_mounted after)
      → CostsAtMost limit (state_by numbers was_stale had_mounted before) (state_by still_numbers is_stale has_mounted after)
  limit_kept fresh none = (let few = spends fresh (λ told. none (calls.flash told)) in omega (arith, few))

pub put_costs : {T : Type 0} (numbers still_numbers : List ℕ) (before after : FlashState) (was_stale had_mounted is_stale has_mounted : Bool) (result : Result T BlockFault)
    → BlockCalls (state_by numbers was_stale had_mounted before) (state_by still_numbers is_stale has_mounted after) result → (size : ℕ)
    → (was_stale ≡ false → (IsErrOf result Flash → ⊥) → after.operations ≤ before.operations + record_pages size)
    → Costs (state_by numbers was_stale had_mounted before) (state_by still_numbers is_stale has_mounted after) size
put_costs numbers still_numbers before after was_stale had_mounted is_stale has_mounted result calls size spends = record {
  at_the_end = λ fresh none same. limit_kept numbers still_numbers before after was_stale had_mounted is_stale has_mounted result calls (record_pages size) spends fresh none;
  at_most = λ fresh none. limit_kept numbers still_numbers before after was_stale had_mounted is_stale has_mounted result calls (record_pages size) spends fresh none;
}
