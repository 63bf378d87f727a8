use Rattle.std.proofs.Common.{refl}
use Rattle.flt_model.proofs.worked.mask_of_several_bits.Goals as goal

pub returns : goal.returns
returns c = refl
