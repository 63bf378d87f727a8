use Rattle.flt_queue.proofs.Asks as asks
use Rattle.flt_queue.proofs.laws.posts_are_answered.Goals as goal

pub returns : goal.returns
returns c = asks.posts_are_answered
