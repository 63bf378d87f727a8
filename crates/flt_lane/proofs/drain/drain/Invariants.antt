use Rattle.std.proofs.Common.{◌≡◌}
use Rattle.flt_turn.specs.Seats as turn
use Rattle.flt_lane.specs.Draining.{HasDrained}
use Rattle.flt_lane.proofs.drain.drain.Given as goal

abbrev pub invariant-loop-job : goal.invariant-loop-job
invariant-loop-job g l = record {
  drained : HasDrained l.config l.initial.seat l.seat l.written l.failed l._job l.initial.store l.store;
  lock : turn.IsSeatOf l.queue.turn l.seat;
  none_kept : l.replies ≡ l.initial.replies;
}
