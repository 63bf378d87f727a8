use Rattle.flt_queue.proofs.Notes.{note_alone}
use Rattle.flt_queue.proofs.lock.QueueLock.note_done.Goals as goal

pub returns : goal.returns
returns g c = note_alone _ _ _ _ _ _ c.call_into.ensures.call
