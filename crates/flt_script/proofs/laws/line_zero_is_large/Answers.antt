use Rattle.flt_script.proofs.LineZero.{line_zero_is_large}
use Rattle.flt_script.proofs.laws.line_zero_is_large.Goals as goal

pub returns : goal.returns
returns c = line_zero_is_large
