use Rattle.flt_model.proofs.OrderLaws.{entries_stand_as_added}
use Rattle.flt_model.proofs.laws.entries_stand_as_added.Goals as goal

pub returns : goal.returns
returns c = entries_stand_as_added
