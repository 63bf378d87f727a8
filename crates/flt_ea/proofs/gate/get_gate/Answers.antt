use Rattle.std.proofs.Common.{sym, ◌∙◌}
use Rattle.flt_ea.proofs.GateBytes.{read_candidate, read_nothing, no_gate, found_gate}
use Rattle.flt_ea.proofs.gate.get_gate.Goals as goal

pub returns-in-Some-clause-gate : goal.returns-in-Some-clause-gate
returns-in-Some-clause-gate c = found_gate c.args.bytes.now c.in-Some.gate c.gate_to_bytes.result c.in-Some.ensures.proper c.gate_to_bytes.ensures c.if-eq.ensures

pub returns-in-Some-clause-read : goal.returns-in-Some-clause-read
returns-in-Some-clause-read c = sym (read_candidate c.args.bytes.now c.in-Some.gate c.gate_to_bytes.result _ (sym c.in-Some.ensures.read) c.gate_to_bytes.ensures c.if-eq.ensures)

pub returns-in_default-clause-none : goal.returns-in_default-clause-none
returns-in_default-clause-none c = no_gate c.args.bytes.now (read_candidate c.args.bytes.now c.in-Some.gate c.gate_to_bytes.result _ (sym c.in-Some.ensures.read) c.gate_to_bytes.ensures c.if-eq.ensures)

pub returns-in_default-clause-read : goal.returns-in_default-clause-read
returns-in_default-clause-read c = sym (read_candidate c.args.bytes.now c.in-Some.gate c.gate_to_bytes.result _ (sym c.in-Some.ensures.read) c.gate_to_bytes.ensures c.if-eq.ensures)

pub returns-in_default-2-clause-none : goal.returns-in_default-2-clause-none
returns-in_default-2-clause-none c = no_gate c.args.bytes.now (read_nothing c.args.bytes.now (sym c.candidate.ensures.read ∙ c.in_default.is))

pub returns-in_default-2-clause-read : goal.returns-in_default-2-clause-read
returns-in_default-2-clause-read c = sym (read_nothing c.args.bytes.now (sym c.candidate.ensures.read ∙ c.in_default.is))
