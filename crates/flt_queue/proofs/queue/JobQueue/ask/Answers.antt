use Rattle.flt_queue.proofs.Steps.{asked}
use Rattle.flt_queue.proofs.queue.JobQueue.ask.Goals as goal

pub returns-then-state-clause-stands : goal.returns-then-state-clause-stands
returns-then-state-clause-stands c = λ past s. asked _ _ past _ s

pub returns-else-state-clause-stands : goal.returns-else-state-clause-stands
returns-else-state-clause-stands c = λ past s. asked _ _ past _ s
