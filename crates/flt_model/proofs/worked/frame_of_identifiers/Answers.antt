use Rattle.std.proofs.Common.{refl}
use Rattle.flt_model.proofs.worked.frame_of_identifiers.Goals as goal

pub returns : goal.returns
returns c = refl
