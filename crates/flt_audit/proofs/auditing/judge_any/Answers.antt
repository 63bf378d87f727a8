use Rattle.std.proofs.Common.{◌∙◌, sym}
use Rattle.flt_did.specs.Table.{dids_of}
use Rattle.flt_audit.proofs.Shapes.{json_due}
use Rattle.flt_audit.proofs.auditing.judge_any.Goals as goal

pub returns-in-Err-2 : goal.returns-in-Err-2
returns-in-Err-2 g c =
    json_due (dids_of c.args.dids) c.args.bytes.now c.line.result
    (c.in-Err.ensures.err (λ memory. absurd (cc (sym c.if-is_memory.false ∙ c.is_memory.ensures.1 memory)))) c.line.ensures
