use Rattle.flt_life_model.proofs.WorkedLife.{places}
use Rattle.flt_life_model.proofs.worked.places_rise.Goals as goal

pub returns : goal.returns
returns c = places
