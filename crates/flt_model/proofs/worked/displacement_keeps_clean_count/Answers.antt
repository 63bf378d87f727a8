use Rattle.std.proofs.Common.{refl}
use Rattle.flt_model.proofs.worked.displacement_keeps_clean_count.Goals as goal

pub returns : goal.returns
returns c = refl
