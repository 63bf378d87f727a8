use Rattle.std.proofs.Common.{ℕ, List, refl, sym, subst, lit<, ◌∙◌}
use Rattle.std.specs.Prelude.{Contains}
use Rattle.flt_store_model.specs.Layout.{numbers}
use Rattle.flt_store_tests.proofs.tests.restored.write_all.Goals as goal

eight : Contains numbers 8
unfolding numbers
eight = (0, lit< tt, refl)

seventeen : Contains numbers 17
unfolding numbers
seventeen = (2, lit< tt, refl)

twenty_four : Contains numbers 24
unfolding numbers
twenty_four = (3, lit< tt, refl)

sixty_five : Contains numbers 65
unfolding numbers
sixty_five = (14, lit< tt, refl)

pub write-requires-clause-number : goal.write-requires-clause-number
write-requires-clause-number c = subst (λ (ns : List ℕ). Contains ns 8) (sym c.requires) eight

pub write-requires-2-clause-number : goal.write-requires-2-clause-number
write-requires-2-clause-number c =
    let first = c.write.ensures.calls.keeps_driver.numbers ∙ c.requires in
    subst (λ (ns : List ℕ). Contains ns 17) (sym first) seventeen

pub write-requires-3-clause-number : goal.write-requires-3-clause-number
write-requires-3-clause-number c =
    let first = c.write.ensures.calls.keeps_driver.numbers ∙ c.requires in
    let second = c.write-2.ensures.calls.keeps_driver.numbers ∙ first in
    subst (λ (ns : List ℕ). Contains ns 24) (sym second) twenty_four

pub write-requires-4-clause-number : goal.write-requires-4-clause-number
write-requires-4-clause-number c =
    let first = c.write.ensures.calls.keeps_driver.numbers ∙ c.requires in
    let second = c.write-2.ensures.calls.keeps_driver.numbers ∙ first in
    let third = c.write-3.ensures.calls.keeps_driver.numbers ∙ second in
    subst (λ (ns : List ℕ). Contains ns 65) (sym third) sixty_five
