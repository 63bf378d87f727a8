-- A state of a counter is a count.
use Rattle.std.proofs.Common.{◌≡◌, ℤ, Option, refl}
use Rattle.flt_config.specs.declared.config.Debounce.TheVariants.{Counter}
use Rattle.flt_model.specs.Debounce.{IsOfKind}
use Rattle.flt_model.specs.declared.call.DebState.{DebState}
use Rattle.flt_model.specs.declared.call.DebState.TheVariants.{Count, Idle, Failing, Passing, AtFailed, AtPassed}

-- The count of a counter's state.
pub record IsCount (state : DebState) : Type 0 where
  pub value : ℤ
  pub is : state ≡ Count value

pub counted_state : (fail_at pass_at up down : ℤ) (jump_up jump_down : Option ℤ) (state : DebState) →
    IsOfKind (Counter fail_at pass_at up down jump_up jump_down) state → IsCount state
counted_state fail_at pass_at up down jump_up jump_down (Count value) kind = record { value = value; is = refl }
counted_state fail_at pass_at up down jump_up jump_down Idle kind = absurd kind
counted_state fail_at pass_at up down jump_up jump_down (Failing ticks) kind = absurd kind
counted_state fail_at pass_at up down jump_up jump_down (Passing ticks) kind = absurd kind
counted_state fail_at pass_at up down jump_up jump_down AtFailed kind = absurd kind
counted_state fail_at pass_at up down jump_up jump_down AtPassed kind = absurd kind
