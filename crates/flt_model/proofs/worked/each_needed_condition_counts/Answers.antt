use Rattle.std.proofs.Common.{refl}
use Rattle.flt_model.proofs.worked.each_needed_condition_counts.Goals as goal

pub returns : goal.returns
returns c = refl
