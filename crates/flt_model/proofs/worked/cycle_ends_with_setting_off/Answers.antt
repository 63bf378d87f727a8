use Rattle.std.proofs.Common.{refl}
use Rattle.flt_model.proofs.worked.cycle_ends_with_setting_off.Goals as goal

pub returns : goal.returns
returns c = refl
