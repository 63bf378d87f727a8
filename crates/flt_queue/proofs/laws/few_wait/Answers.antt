use Rattle.flt_queue.proofs.Refusals as refusals
use Rattle.flt_queue.proofs.laws.few_wait.Goals as goal

pub returns : goal.returns
returns c = refusals.few_wait
