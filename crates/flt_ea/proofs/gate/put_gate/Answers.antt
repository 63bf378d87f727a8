use Rattle.std.proofs.Common.{◌∙◌, ap}
use Rattle.flt_ea.specs.Gate.{gate_of}
use Rattle.flt_ea.proofs.GateBytes.{gate_of-gate_bytes}
use Rattle.flt_ea.proofs.gate.put_gate.Goals as goal

pub returns-clause-read : goal.returns-clause-read
returns-clause-read c = ap gate_of c.gate_to_bytes.ensures ∙ gate_of-gate_bytes c.args.gate.now c.requires
