use Rattle.std.proofs.Common.{◌≡◌, Some}
use Rattle.std.specs.Prelude.{IsUtf8}
use Rattle.serde_json.specs.Read.{read}
use Rattle.flt_did.specs.Table.{dids_of}
use Rattle.flt_trace.specs.Trace.{texts_of, trace_data}
use Rattle.flt_audit.proofs.Shapes.{line_audited, of_found}
use Rattle.flt_audit.proofs.auditing.AuditorJudge.judge.Goals as goal

pub returns-in-Some : goal.returns-in-Some
returns-in-Some g c =
    let bytes = c.args.bytes.now in
    let trace = c.in-Some.trace in
    let utf8 = of_found (λ trace. IsUtf8 bytes) c.in_ok-trace.field-0 trace c.in-Some.is c.in_ok-trace.ensures.utf8 in
    let reads = of_found (λ trace. read bytes ≡ Some (trace_data (texts_of trace))) c.in_ok-trace.field-0 trace c.in-Some.is c.in_ok-trace.ensures.reads in
    line_audited (dids_of c.args.self.dids) bytes (texts_of trace) c.judge_texts.result utf8 reads c.judge_texts.ensures
