use Rattle.std.proofs.Common.{refl}
use Rattle.flt_model.proofs.worked.confirmed_anew.Goals as goal

pub returns : goal.returns
returns c = refl
