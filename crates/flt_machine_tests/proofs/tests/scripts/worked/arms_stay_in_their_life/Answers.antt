use Rattle.std.proofs.Common.{◌≡◌, ℕ, List, refl, ap, arith}
use Rattle.std.specs.Prelude.{slice_index_or}
use Rattle.flt_flash.specs.declared.arm.Arm.{Arm}
use Rattle.flt_machine_tests.proofs.tests.scripts.worked.arms_stay_in_their_life.Goals as goal

pub returns : goal.returns
returns c = λ arm. record {
  given = refl;
  second = refl;
  first = λ never. (let number : 1 ≡ 2 = ap (λ (made : List (ℕ × Arm)). (slice_index_or made 0 (0, arm)).0) never in omega (arith, number));
}
