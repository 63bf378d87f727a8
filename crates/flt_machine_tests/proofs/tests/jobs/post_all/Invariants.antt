use Rattle.std.proofs.Common.{◌≡◌}
use Rattle.flt_machine_tests.proofs.tests.jobs.post_all.Given as goal

abbrev pub invariant-loop-block : goal.invariant-loop-block
invariant-loop-block g l = l.queue.blocks ≡ 40
