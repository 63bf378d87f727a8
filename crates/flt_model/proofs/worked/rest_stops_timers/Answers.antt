use Rattle.std.proofs.Common.{refl}
use Rattle.flt_model.proofs.worked.rest_stops_timers.Goals as goal

pub returns : goal.returns
returns c = refl
