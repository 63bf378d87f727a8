use Rattle.flt_trace.proofs.Due as due
use Rattle.flt_trace.proofs.answers.laws.calls_can_be_made.Goals as goal

pub returns : goal.returns
returns c = due.calls_can_be_made
