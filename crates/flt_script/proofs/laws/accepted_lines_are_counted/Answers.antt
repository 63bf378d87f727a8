use Rattle.flt_script.proofs.Counted.{accepted_lines_are_counted}
use Rattle.flt_script.proofs.laws.accepted_lines_are_counted.Goals as goal

pub returns : goal.returns
returns c = accepted_lines_are_counted
