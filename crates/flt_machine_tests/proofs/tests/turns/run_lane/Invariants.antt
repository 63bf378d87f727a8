use Rattle.std.proofs.Common.{◌≡◌, ◌≤◌}
use Rattle.flt_machine_tests.proofs.tests.turns.run_lane.Given as goal

abbrev pub invariant-loop-seat : goal.invariant-loop-seat
invariant-loop-seat g l = (l.seat.lock ≡ l.initial.seat.lock) × (l.seat.left ≤ 10000)

abbrev pub decreases-loop-seat : goal.decreases-loop-seat
decreases-loop-seat g l = l.seat.left
