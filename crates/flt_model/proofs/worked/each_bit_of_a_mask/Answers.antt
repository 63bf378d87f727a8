use Rattle.std.proofs.Common.{refl}
use Rattle.flt_model.proofs.worked.each_bit_of_a_mask.Goals as goal

pub returns : goal.returns
returns c = refl
