use Rattle.flt_model.proofs.TickLaws.{ticks_qualify_once}
use Rattle.flt_model.proofs.laws.ticks_qualify_once.Goals as goal

pub returns : goal.returns
returns c = ticks_qualify_once
