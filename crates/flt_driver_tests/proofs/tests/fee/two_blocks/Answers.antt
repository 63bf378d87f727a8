use Rattle.std.proofs.Common.{ℕ, List, Contains, refl, sym, ◌∙◌, subst, arith}
use Rattle.flt_driver_tests.proofs.tests.fee.two_blocks.Goals as goal

pub returns-in-Ok-clause-first : goal.returns-in-Ok-clause-first
returns-in-Ok-clause-first g c = subst (λ (numbers : List ℕ). Contains {X = ℕ} numbers 8) (sym (c.in-Ok.ensures.numbers ∙ c.in_ok-vec.ensures.items)) (1, omega arith, refl)

pub returns-in-Ok-clause-second : goal.returns-in-Ok-clause-second
returns-in-Ok-clause-second g c = subst (λ (numbers : List ℕ). Contains {X = ℕ} numbers 9) (sym (c.in-Ok.ensures.numbers ∙ c.in_ok-vec.ensures.items)) (0, omega arith, refl)
