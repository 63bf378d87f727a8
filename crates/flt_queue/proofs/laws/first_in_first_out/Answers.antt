use Rattle.flt_queue.proofs.Orders as orders
use Rattle.flt_queue.proofs.laws.first_in_first_out.Goals as goal

pub returns : goal.returns
returns c = orders.first_in_first_out
