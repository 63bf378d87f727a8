use Rattle.std.proofs.Common.{refl}
use Rattle.flt_model.proofs.worked.oldest_gives_way.Goals as goal

pub returns : goal.returns
returns c = refl
