use Rattle.std.proofs.Common.{refl}
use Rattle.flt_model.proofs.worked.noted_as_saved.Goals as goal

pub returns : goal.returns
returns c = refl
