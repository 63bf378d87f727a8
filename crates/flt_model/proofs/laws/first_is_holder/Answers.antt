use Rattle.flt_model.proofs.FirstLaws.{first_is_holder}
use Rattle.flt_model.proofs.laws.first_is_holder.Goals as goal

pub returns : goal.returns
returns c = first_is_holder
