use Rattle.std.proofs.Common.{refl}
use Rattle.flt_model.proofs.worked.silent_ticks_do_not_count.Goals as goal

pub returns : goal.returns
returns c = refl
