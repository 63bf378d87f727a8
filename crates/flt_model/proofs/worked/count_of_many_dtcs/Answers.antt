use Rattle.std.proofs.Common.{refl}
use Rattle.flt_model.proofs.worked.count_of_many_dtcs.Goals as goal

pub returns : goal.returns
returns c = refl
