use Rattle.std.proofs.Common.{◌≡◌, ⊎_elim, ap, refl, arith}
use Rattle.flt_store_model.specs.Holding.{Generation}
use Rattle.flt_machine_tests.proofs.tests.scripts.worked.last_is_named.Goals as goal

pub returns : goal.returns
returns c = λ config state. record {
  none = refl;
  named = refl;
  behind = refl;
  same = λ g last number. ⊎_elim (λ is. is) (λ later. absurd (omega (arith, number, later)));
  smaller = λ g last less. ⊎_elim
      (λ is. (let number : g.number ≡ last.number = ap (λ (one : Generation). one.number) is in omega (arith, number, less)))
      (λ later. omega (arith, later, less));
}
