use Rattle.flt_model.proofs.StatusLaws.{byte_tells_bits}
use Rattle.flt_model.proofs.laws.byte_tells_bits.Goals as goal

pub returns : goal.returns
returns c = byte_tells_bits
