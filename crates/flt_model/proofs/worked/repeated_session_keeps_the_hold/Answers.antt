use Rattle.std.proofs.Common.{refl}
use Rattle.flt_model.proofs.worked.repeated_session_keeps_the_hold.Goals as goal

pub returns : goal.returns
returns c = refl
