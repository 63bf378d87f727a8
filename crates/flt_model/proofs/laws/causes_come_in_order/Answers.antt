use Rattle.flt_model.proofs.EnableLaws.{causes_come_in_order}
use Rattle.flt_model.proofs.laws.causes_come_in_order.Goals as goal

pub returns : goal.returns
returns c = causes_come_in_order
