use Rattle.flt_queue.proofs.Dues as dues
use Rattle.flt_queue.proofs.laws.handed_out_is_due.Goals as goal

pub returns : goal.returns
returns c = dues.handed_out_is_due
