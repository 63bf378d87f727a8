use Rattle.flt_model.proofs.Common.{bool_byte_value}
use Rattle.flt_status.proofs.step.pack.Goals as goal

pub returns : goal.returns
returns c = simp bool_byte_value
