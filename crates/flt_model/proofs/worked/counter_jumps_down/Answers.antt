use Rattle.std.proofs.Common.{refl}
use Rattle.flt_model.proofs.worked.counter_jumps_down.Goals as goal

pub returns : goal.returns
returns c = refl
