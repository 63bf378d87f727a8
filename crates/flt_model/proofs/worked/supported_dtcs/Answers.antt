use Rattle.std.proofs.Common.{refl}
use Rattle.flt_model.proofs.worked.supported_dtcs.Goals as goal

pub returns : goal.returns
returns c = refl
