use Rattle.std.proofs.Common.{append_assoc, rules}
use Rattle.flt_run.specs.Report.{extent_text}
use Rattle.flt_run.proofs.line.ExtentDisplay.fmt.Goals as goal

pub returns-clause-writes : goal.returns-clause-writes
unfolding extent_text
returns-clause-writes g c = search (rules, append_assoc)
