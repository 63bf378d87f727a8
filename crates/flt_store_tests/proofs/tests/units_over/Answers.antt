use Rattle.std.proofs.Common.{◌∙◌, ◌*◌, ◌≤◌, length, ap, arith}
use Rattle.flt_flash.specs.Blocks.{BlocksState}
use Rattle.flt_store_model.specs.Layout.{numbers}
use Rattle.flt_store_tests.proofs.tests.units_over.Goals as goal

enough : 10 * length numbers ≤ 1090
unfolding numbers
enough = omega arith

pub make-requires-clause-units : goal.make-requires-clause-units
make-requires-clause-units g c =
    omega (arith, ap length c.in_ok-fee_numbers.ensures, enough, c.units.ensures, c.if-units-lt-UNITS.false)

pub returns-in-Ok : goal.returns-in-Ok
returns-in-Ok g c =
    (ap (λ (s : BlocksState). s.numbers) c.in-Ok.ensures.made ∙ c.in_ok-fee_numbers.ensures, ap (λ (s : BlocksState). s.room) c.in-Ok.ensures.made)
