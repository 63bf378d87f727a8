use Rattle.std.proofs.Common.{refl}
use Rattle.flt_model.proofs.worked.saved_memory_goes_on.Goals as goal

pub returns : goal.returns
returns c = refl
