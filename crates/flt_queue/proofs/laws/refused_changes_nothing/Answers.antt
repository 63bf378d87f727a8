use Rattle.flt_queue.proofs.Refusals as refusals
use Rattle.flt_queue.proofs.laws.refused_changes_nothing.Goals as goal

pub returns : goal.returns
returns c = refusals.refused_changes_nothing
