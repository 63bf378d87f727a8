use Rattle.flt_model.proofs.StatusLaws.{pending_is_unrefuted_failure}
use Rattle.flt_model.proofs.laws.pending_is_unrefuted_failure.Goals as goal

pub returns : goal.returns
returns c = pending_is_unrefuted_failure
