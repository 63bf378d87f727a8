use Rattle.std.proofs.Common.{refl}
use Rattle.flt_code.specs.Seal.{sealed}
use Rattle.flt_ea.specs.Gate.{gate_bytes, gate_candidate, gate_of}
use Rattle.flt_driver_tests.proofs.tests.worked.gates_in_bytes.Goals as goal

pub returns : goal.returns
unfolding sealed gate_bytes gate_candidate gate_of
returns c = record { valid = refl; invalid = refl; invalid_unit = refl; read = refl; refused = refl }
