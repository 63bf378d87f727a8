use Rattle.flt_queue.proofs.Dues as dues
use Rattle.flt_queue.proofs.laws.one_of_a_block.Goals as goal

pub returns : goal.returns
returns c = dues.one_of_a_block
