use Rattle.std.proofs.Common.{ℕ, List, Contains, ap, refl, sym, ◌∙◌, subst, arith}
use Rattle.flt_flash.specs.Blocks.{BlocksState}
use Rattle.flt_driver_tests.proofs.tests.ea.two_blocks.Goals as goal

pub returns-in-Ok-clause-first : goal.returns-in-Ok-clause-first
returns-in-Ok-clause-first g c = subst (λ (numbers : List ℕ). Contains {X = ℕ} numbers 8) (sym (ap (λ (s : BlocksState). s.numbers) c.in-Ok.ensures.made ∙ c.in_ok-vec.ensures.items)) (0, omega arith, refl)

pub returns-in-Ok-clause-second : goal.returns-in-Ok-clause-second
returns-in-Ok-clause-second g c = subst (λ (numbers : List ℕ). Contains {X = ℕ} numbers 9) (sym (ap (λ (s : BlocksState). s.numbers) c.in-Ok.ensures.made ∙ c.in_ok-vec.ensures.items)) (1, omega arith, refl)
