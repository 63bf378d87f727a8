use Rattle.flt_model.proofs.StatusLaws.{indicator_is_lit}
use Rattle.flt_model.proofs.laws.indicator_is_lit.Goals as goal

pub returns : goal.returns
returns c = indicator_is_lit
