use Rattle.std.proofs.Common.{refl}
use Rattle.flt_flash.proofs.worked.arms_act.Goals as goal

pub returns : goal.returns
returns c = record { writes_fail = refl; writes_leave = refl; reads_fail = refl; reads_leave = refl }
