use Rattle.flt_model.proofs.StatusLaws.{test_failed_is_last_result}
use Rattle.flt_model.proofs.laws.test_failed_is_last_result.Goals as goal

pub returns : goal.returns
returns c = test_failed_is_last_result
