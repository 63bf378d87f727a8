use Rattle.std.proofs.Common.{refl}
use Rattle.flt_model.proofs.worked.silence_ends_session_and_hold.Goals as goal

pub returns : goal.returns
returns c = refl
