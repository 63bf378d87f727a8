use Rattle.std.proofs.Common.{refl}
use Rattle.flt_model.proofs.worked.disabled_reports_are_ignored.Goals as goal

pub returns : goal.returns
returns c = refl
