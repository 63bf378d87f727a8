use Rattle.std.proofs.Common.{refl}
use Rattle.flt_model.proofs.worked.drive_goes_on.Goals as goal

pub returns : goal.returns
returns c = refl
