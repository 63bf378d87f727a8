use Rattle.flt_script.proofs.Outcomes.{each_has_one_outcome}
use Rattle.flt_script.proofs.laws.each_has_one_outcome.Goals as goal

pub returns : goal.returns
returns c = each_has_one_outcome
