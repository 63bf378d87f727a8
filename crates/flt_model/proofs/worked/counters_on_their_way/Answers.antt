use Rattle.std.proofs.Common.{refl}
use Rattle.flt_model.proofs.worked.counters_on_their_way.Goals as goal

pub returns : goal.returns
returns c = refl
