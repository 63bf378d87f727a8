use Rattle.flt_life_model.proofs.WorkedLife.{leaves}
use Rattle.flt_life_model.proofs.worked.life_leaves.Goals as goal

pub returns : goal.returns
returns c = leaves
