use Rattle.std.proofs.Common.{refl}
use Rattle.flt_model.proofs.worked.repeated_failure_qualifies.Goals as goal

pub returns : goal.returns
returns c = refl
