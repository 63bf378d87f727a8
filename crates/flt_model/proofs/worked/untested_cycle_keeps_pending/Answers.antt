use Rattle.std.proofs.Common.{refl}
use Rattle.flt_model.proofs.worked.untested_cycle_keeps_pending.Goals as goal

pub returns : goal.returns
returns c = refl
