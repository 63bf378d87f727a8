use Rattle.std.proofs.Common.{refl}
use Rattle.flt_code.specs.Seal.{sealed}
use Rattle.flt_ea.specs.Gate.{gate_bytes}
use Rattle.flt_ea.proofs.worked.gate_in_bytes.Goals as goal

pub returns : goal.returns
unfolding sealed gate_bytes
returns c = refl
