use Rattle.std.proofs.Common.{refl}
use Rattle.flt_model.proofs.worked.ends_of_the_counter_list.Goals as goal

pub returns : goal.returns
returns c = refl
