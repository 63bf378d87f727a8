use Rattle.flt_model.proofs.StatusLaws.{lit_is_confirmed}
use Rattle.flt_model.proofs.laws.lit_is_confirmed.Goals as goal

pub returns : goal.returns
returns c = lit_is_confirmed
