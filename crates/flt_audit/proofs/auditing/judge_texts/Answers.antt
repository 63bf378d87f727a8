use Rattle.std.proofs.Common.{ℕ, List, None, Some, Bor, arith, length, refl, subst}
use Rattle.std.proofs.lemmas.List.{length-map}
use Rattle.flt_did.specs.Table.{dids_of}
use Rattle.flt_trace.specs.Trace.{texts_of}
use Rattle.flt_audit.specs.Audit.{IsAuditOf}
use Rattle.flt_audit.proofs.Shapes.{none_due, told_due}
use Rattle.flt_audit.proofs.auditing.judge_texts.Goals as goal

pub returns-in-NoLife : goal.returns-in-NoLife
returns-in-NoLife g c =
    let dids = dids_of c.args.dids in
    let texts = texts_of c.args.trace.now in
    none_due dids texts c.line.result (subst (IsAuditOf dids texts) c.in-NoLife.is c.in_ok-judge_trace.ensures) c.line.ensures

pub returns-in-AllDue : goal.returns-in-AllDue
returns-in-AllDue g c =
    let dids = dids_of c.args.dids in
    let trace = c.args.trace.now in
    let texts = texts_of trace in
    told_due dids texts c.yes.result c.len.result None (omega (arith, c.len.ensures, trace.journal.ok, length-map trace.journal.items (λ (t : Bor (List ℕ)). t.now)))
    (subst (IsAuditOf dids texts) c.in-AllDue.is c.in_ok-judge_trace.ensures) c.yes.ensures

pub returns-in-Differs : goal.returns-in-Differs
returns-in-Differs g c =
    let dids = dids_of c.args.dids in
    let texts = texts_of c.args.trace.now in
    told_due dids texts c.no.result (length texts.journal) (Some c.in-Differs.place) refl (subst (IsAuditOf dids texts) c.in-Differs.is c.in_ok-judge_trace.ensures) c.no.ensures
