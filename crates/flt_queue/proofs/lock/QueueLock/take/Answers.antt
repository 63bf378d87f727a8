use Rattle.flt_queue.proofs.Ranges.{take_for}
use Rattle.flt_queue.proofs.lock.QueueLock.take.Goals as goal

pub returns-clause-job : goal.returns-clause-job
returns-clause-job g c = take_for _ _ _ c.call.ensures.call
