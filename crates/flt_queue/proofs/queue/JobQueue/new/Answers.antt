use Rattle.std.proofs.Common.{true, false, ap}
use Rattle.flt_queue.proofs.Steps.{nothing_waits, resting_at}
use Rattle.flt_queue.proofs.queue.JobQueue.new.Goals as goal

pub returns-clause-stands : goal.returns-clause-stands
returns-clause-stands c = record {
  urgent = rw (nothing_waits true) (ap (λ ring. ring.items) c.in_ok-urgent.ensures);
  standard = rw (nothing_waits false) (ap (λ ring. ring.items) c.in_ok-standard.ensures);
  table = resting_at;
}
