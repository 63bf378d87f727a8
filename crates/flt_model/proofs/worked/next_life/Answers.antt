use Rattle.std.proofs.Common.{refl}
use Rattle.flt_model.proofs.worked.next_life.Goals as goal

pub returns : goal.returns
returns c = refl
