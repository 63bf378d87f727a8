use Rattle.std.proofs.Common.{refl}
use Rattle.flt_model.proofs.worked.clear_of_another_event.Goals as goal

pub returns : goal.returns
returns c = refl
