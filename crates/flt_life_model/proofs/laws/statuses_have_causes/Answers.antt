use Rattle.flt_life_model.proofs.Ending.{by_boot}
use Rattle.flt_life_model.proofs.laws.statuses_have_causes.Goals as goal

pub returns : goal.returns
returns c = λ config boot next ended life holds. by_boot config boot next ended life life.boot holds
