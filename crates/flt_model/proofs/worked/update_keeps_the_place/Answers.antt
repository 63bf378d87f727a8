use Rattle.std.proofs.Common.{refl}
use Rattle.flt_model.proofs.worked.update_keeps_the_place.Goals as goal

pub returns : goal.returns
returns c = refl
