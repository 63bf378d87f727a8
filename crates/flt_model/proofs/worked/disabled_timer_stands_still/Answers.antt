use Rattle.std.proofs.Common.{refl}
use Rattle.flt_model.proofs.worked.disabled_timer_stands_still.Goals as goal

pub returns : goal.returns
returns c = refl
