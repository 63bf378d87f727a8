use Rattle.std.proofs.Common.{refl}
use Rattle.flt_model.proofs.worked.unlit_event_ages.Goals as goal

pub returns : goal.returns
returns c = refl
