use Rattle.std.proofs.Common.{◌≡◌}
use Rattle.flt_driver_tests.proofs.tests.job.run_job.Given as goal

abbrev pub invariant-loop-change : goal.invariant-loop-change
invariant-loop-change g l = (g.B.Blocks.state l.driver).numbers ≡ (g.B.Blocks.state l.initial.driver).numbers
