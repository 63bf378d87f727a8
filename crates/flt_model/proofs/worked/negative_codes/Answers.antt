use Rattle.std.proofs.Common.{refl}
use Rattle.flt_model.proofs.worked.negative_codes.Goals as goal

pub returns : goal.returns
returns c = refl
