use Rattle.std.proofs.Common.{◌≡◌}
use Rattle.bench.proofs.lanes.call_turn.Given as goal

abbrev pub invariant-loop-last : goal.invariant-loop-last
invariant-loop-last g l = l.seat.lock ≡ l.initial.seat.lock

abbrev pub decreases-loop-last : goal.decreases-loop-last
decreases-loop-last g l = l.seat.left
