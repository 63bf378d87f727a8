use Rattle.flt_queue.proofs.Asks as asks
use Rattle.flt_queue.proofs.laws.ask_tells_last.Goals as goal

pub returns : goal.returns
returns c = asks.ask_tells_last
