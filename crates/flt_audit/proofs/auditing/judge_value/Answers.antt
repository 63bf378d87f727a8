use Rattle.serde_json.specs.View.{view}
use Rattle.flt_did.specs.Table.{dids_of}
use Rattle.flt_trace.specs.Trace.{IsTrace, Texts, texts_of}
use Rattle.flt_trace.proofs.Calls.{if_none, if_some}
use Rattle.flt_audit.proofs.Shapes.{no_trace_due, trace_due}
use Rattle.flt_audit.proofs.auditing.judge_value.Goals as goal

pub returns-in-Some : goal.returns-in-Some
returns-in-Some g c =
    let d = view c.args.value.now in
    let trace = c.in-Some.trace in
    trace_due (dids_of c.args.dids) d (texts_of trace) c.judge_texts.result
    (if_some ((texts : Texts) → IsTrace d texts → ⊥) (λ trace. IsTrace d (texts_of trace)) c.in_ok-trace.field-0 trace c.in-Some.is c.in_ok-trace.ensures) c.judge_texts.ensures

pub returns-in-None : goal.returns-in-None
returns-in-None g c =
    let d = view c.args.value.now in
    no_trace_due (dids_of c.args.dids) d c.line.result
    (if_none ((texts : Texts) → IsTrace d texts → ⊥) (λ trace. IsTrace d (texts_of trace)) c.in_ok-trace.field-0 c.in-None.is c.in_ok-trace.ensures) c.line.ensures
