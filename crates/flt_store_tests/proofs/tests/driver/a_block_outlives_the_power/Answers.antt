use Rattle.std.proofs.Common.{ℕ, List, refl, sym, subst, lit<}
use Rattle.std.specs.Prelude.{Contains}
use Rattle.flt_store_model.specs.Layout.{numbers}
use Rattle.flt_store_tests.proofs.tests.driver.a_block_outlives_the_power.Goals as goal

eight : Contains numbers 8
unfolding numbers
eight = (0, lit< tt, refl)

pub drive-requires : goal.drive-requires
drive-requires g c = subst (λ (ns : List ℕ). Contains ns 8) (sym c.in_ok-driver.ensures.0) eight
