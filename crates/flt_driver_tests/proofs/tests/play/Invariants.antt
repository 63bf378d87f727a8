use Rattle.std.proofs.Common.{◌≡◌}
use Rattle.flt_driver_tests.proofs.tests.play.Given as goal

abbrev pub invariant-loop-at : goal.invariant-loop-at
invariant-loop-at g l = (g.B.Blocks.state l.driver).numbers ≡ (g.B.Blocks.state l.initial.driver).numbers
