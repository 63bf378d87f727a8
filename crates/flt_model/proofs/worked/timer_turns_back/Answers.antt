use Rattle.std.proofs.Common.{refl}
use Rattle.flt_model.proofs.worked.timer_turns_back.Goals as goal

pub returns : goal.returns
returns c = refl
