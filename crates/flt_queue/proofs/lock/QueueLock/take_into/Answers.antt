use Rattle.flt_queue.proofs.Ranges.{take_into_for}
use Rattle.flt_queue.proofs.lock.QueueLock.take_into.Goals as goal

pub returns-clause-job : goal.returns-clause-job
returns-clause-job g c = take_into_for _ _ _ _ c.call_into.ensures.call.call
