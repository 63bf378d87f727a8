use Rattle.std.proofs.Common.{◌*◌, ◌≤◌, length, ap, arith}
use Rattle.flt_store_model.specs.Layout.{numbers}
use Rattle.flt_lives.proofs.driver.EaDriver.open.Goals as goal

enough : 10 * length numbers ≤ 1090
unfolding numbers
enough = omega arith

pub make-requires-clause-units : goal.make-requires-clause-units
make-requires-clause-units g c = omega (arith, ap length c.requires.numbers, enough, c.requires.serves)
