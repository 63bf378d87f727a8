use Rattle.std.proofs.Common.{◌≡◌}
use Rattle.flt_driver_tests.proofs.tests.fill.Given as goal

abbrev pub invariant-loop-value : goal.invariant-loop-value
invariant-loop-value g l = (g.B.Blocks.state l.driver).numbers ≡ (g.B.Blocks.state l.initial.driver).numbers
