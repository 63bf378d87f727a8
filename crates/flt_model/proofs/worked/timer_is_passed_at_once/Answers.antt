use Rattle.std.proofs.Common.{refl}
use Rattle.flt_model.proofs.worked.timer_is_passed_at_once.Goals as goal

pub returns : goal.returns
returns c = refl
