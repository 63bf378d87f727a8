use Rattle.flt_life_model.proofs.WorkedLife.{holds}
use Rattle.flt_life_model.proofs.worked.block_holds.Goals as goal

pub returns : goal.returns
returns c = holds
