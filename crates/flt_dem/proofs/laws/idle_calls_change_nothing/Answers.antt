use Rattle.flt_dem.proofs.IdleLemmas.{stands_idle}
use Rattle.flt_dem.proofs.laws.idle_calls_change_nothing.Goals as goal

pub returns : goal.returns
returns c = stands_idle
