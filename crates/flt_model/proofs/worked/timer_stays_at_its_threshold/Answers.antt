use Rattle.std.proofs.Common.{refl}
use Rattle.flt_model.proofs.worked.timer_stays_at_its_threshold.Goals as goal

pub returns : goal.returns
returns c = refl
