use Rattle.std.proofs.Common.{refl}
use Rattle.flt_model.proofs.worked.confirmed_once.Goals as goal

pub returns : goal.returns
returns c = refl
