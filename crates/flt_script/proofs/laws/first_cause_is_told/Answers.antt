use Rattle.flt_script.proofs.FirstCause.{first_cause_is_told}
use Rattle.flt_script.proofs.laws.first_cause_is_told.Goals as goal

pub returns : goal.returns
returns c = first_cause_is_told
