use Rattle.std.proofs.Common.{refl}
use Rattle.flt_model.proofs.worked.last_testers_hold.Goals as goal

pub returns : goal.returns
returns c = refl
