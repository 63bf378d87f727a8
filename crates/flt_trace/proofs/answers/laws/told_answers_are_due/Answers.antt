use Rattle.flt_trace.proofs.Due as due
use Rattle.flt_trace.proofs.answers.laws.told_answers_are_due.Goals as goal

pub returns : goal.returns
returns c = due.told_answers_are_due
