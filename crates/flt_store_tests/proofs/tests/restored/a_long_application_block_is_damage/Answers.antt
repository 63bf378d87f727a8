use Rattle.std.proofs.Common.{ℕ, List, refl, sym, subst, lit<}
use Rattle.std.specs.Prelude.{Contains}
use Rattle.flt_store_model.specs.Layout.{numbers}
use Rattle.flt_store_tests.proofs.tests.restored.a_long_application_block_is_damage.Goals as goal

there : Contains numbers 520
unfolding numbers
there = (70, lit< tt, refl)

pub write-requires-clause-number : goal.write-requires-clause-number
write-requires-clause-number g c = subst (λ (ns : List ℕ). Contains ns 520) (sym c.in_ok-driver.ensures.0) there
