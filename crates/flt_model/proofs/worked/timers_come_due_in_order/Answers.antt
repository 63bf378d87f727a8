use Rattle.std.proofs.Common.{refl}
use Rattle.flt_model.proofs.worked.timers_come_due_in_order.Goals as goal

pub returns : goal.returns
returns c = refl
