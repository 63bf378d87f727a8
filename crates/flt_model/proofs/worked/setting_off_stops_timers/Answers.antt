use Rattle.std.proofs.Common.{refl}
use Rattle.flt_model.proofs.worked.setting_off_stops_timers.Goals as goal

pub returns : goal.returns
returns c = refl
