use Rattle.flt_dem.proofs.ViewLemmas.{view_told}
use Rattle.flt_dem.proofs.laws.view_is_told.Goals as goal

pub returns : goal.returns
returns c = view_told
