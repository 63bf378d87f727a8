use Rattle.flt_model.proofs.RankLemmas.{ranks_are_compared}
use Rattle.flt_model.proofs.laws.ranks_are_compared.Goals as goal

pub returns : goal.returns
returns c = ranks_are_compared
