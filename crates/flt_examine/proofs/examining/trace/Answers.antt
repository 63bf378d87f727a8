use Rattle.std.proofs.Common.{ℕ, Err, None, ap, refl, subst, sym}
use Rattle.std.specs.Prelude.{option_map}
use Rattle.flt_did.specs.Table.{dids_of}
use Rattle.flt_filter.specs.Verdict.{Inside, Outside, due_of}
use Rattle.flt_examine.specs.Examination.{Traces}
use Rattle.flt_examine.specs.Traced.{IsTraceDue, RunsOnBlank}
use Rattle.flt_examine.specs.declared.tracing.Traced.{Traced}
use Rattle.flt_filter.proofs.Told.{fault_made}
use Rattle.flt_examine.proofs.Telling.{NotJudged, run_told, unread_told}
use Rattle.flt_examine.proofs.Made.{of_some}
use Rattle.flt_examine.proofs.examining.trace.Goals as goal

pub returns-in-Err : goal.returns-in-Err
returns-in-Err g c =
    let inside : Inside = record {
      left = g.S.Source.left c.args.source.now;
      left_after = g.S.Source.left c.read_input.new.source;
      faults = g.S.Source.faults c.args.source.now;
      faults_after = g.S.Source.faults c.read_input.new.source;
    } in
    let outside : Outside = record {
      held = g.K.Sink.held c.args.sink.now;
      held_after = g.K.Sink.held c.tell.new.sink;
      faults = g.K.Sink.faults c.args.sink.now;
      faults_after = g.K.Sink.faults c.tell.new.sink;
    } in
    unread_told (dids_of c.args.dids) inside outside c.tell.result None (option_map due_of c.verdict-verdict.result)
    (fault_made NotJudged inside c.in-Err.fault c.verdict-verdict.result (λ is. c.in-Err.ensures.unread (ap Err is)) (λ is. c.in-Err.ensures.large (ap Err is)) c.verdict-verdict.ensures)
    c.tell.ensures refl

pub returns : goal.returns
returns g c =
    let inside : Inside = record {
      left = g.S.Source.left c.args.source.now;
      left_after = g.S.Source.left c.read_input.new.source;
      faults = g.S.Source.faults c.args.source.now;
      faults_after = g.S.Source.faults c.read_input.new.source;
    } in
    let outside : Outside = record {
      held = g.K.Sink.held c.args.sink.now;
      held_after = g.K.Sink.held c.tell-status.new.sink;
      faults = g.K.Sink.faults c.args.sink.now;
      faults_after = g.K.Sink.faults c.tell-status.new.sink;
    } in
    let dids = dids_of c.args.dids in
    let bytes = c.in-Ok.bytes.items in
    let traced = c.in-Some.traced in
    let found = of_some (λ (t : Traced). RunsOnBlank dids bytes t.outcome × IsTraceDue dids bytes t.outcome (due_of t.verdict)) c.trace_bytes.result traced c.in-Some.is c.trace_bytes.ensures in
    subst (λ (status : ℕ). Traces dids inside outside c.with_status.result.traced status) (sym c.with_status.ensures.status)
    (run_told dids inside outside c.tell-status.result c.with_status.result.traced bytes traced.outcome (due_of traced.verdict) c.in-Ok.ensures.read found.0 found.1 c.tell-status.ensures
    c.with_status.ensures.wanting c.with_status.ensures.kept)
