use Rattle.std.proofs.Common.{refl}
use Rattle.flt_model.proofs.worked.number_comes_first.Goals as goal

pub returns : goal.returns
returns c = refl
