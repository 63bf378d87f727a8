use Rattle.flt_script.proofs.Printed.{printed_step_is_read_again}
use Rattle.flt_script.proofs.laws.printed_step_is_read_again.Goals as goal

pub returns : goal.returns
returns c = printed_step_is_read_again
