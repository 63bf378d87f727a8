use Rattle.std.proofs.Common.{refl}
use Rattle.flt_model.proofs.worked.clean_cycles_stop_at_most.Goals as goal

pub returns : goal.returns
returns c = refl
