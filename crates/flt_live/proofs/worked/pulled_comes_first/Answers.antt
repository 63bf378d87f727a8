use Rattle.std.proofs.Common.{refl}
use Rattle.flt_live.proofs.worked.pulled_comes_first.Goals as goal

pub returns : goal.returns
returns c = record { told = refl; untold = refl }
