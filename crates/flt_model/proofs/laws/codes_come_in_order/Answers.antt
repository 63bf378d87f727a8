use Rattle.flt_model.proofs.CodeLaws.{codes_come_in_order}
use Rattle.flt_model.proofs.laws.codes_come_in_order.Goals as goal

pub returns : goal.returns
returns c = codes_come_in_order
