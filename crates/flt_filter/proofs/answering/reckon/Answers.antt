use Rattle.std.proofs.Common.{ℕ, List, Option, Err, sym, ap, subst}
use Rattle.std.specs.Prelude.{option_map}
use Rattle.flt_filter.specs.Verdict.{HasCome, Inside, IsVerdictMade, due_of, whole}
use Rattle.flt_filter.specs.declared.verdict.Verdict.{Verdict}
use Rattle.flt_filter.proofs.Told.{judged_made, fault_made}
use Rattle.flt_filter.proofs.answering.reckon.Goals as goal

pub returns-in-Ok : goal.returns-in-Ok
returns-in-Ok g c =
    let inside : Inside = record {
      left = g.S.Source.left c.args.source.now;
      left_after = g.S.Source.left c.read_input.new.source;
      faults = g.S.Source.faults c.args.source.now;
      faults_after = g.S.Source.faults c.read_input.new.source;
    } in
    let IsJudged = g.J.Judge.is_judged c.args.judge in
    subst (λ (made : Option Verdict). IsVerdictMade IsJudged inside (option_map due_of made)) (sym c.ok.ensures.value)
    (judged_made IsJudged inside c.deref.result.now c.judge.result
    (subst (λ (bytes : List ℕ). HasCome inside (whole bytes)) (sym c.deref.ensures.value) c.in-Ok.ensures.read)
    c.judge.ensures)

pub returns-in-Err : goal.returns-in-Err
returns-in-Err g c =
    let inside : Inside = record {
      left = g.S.Source.left c.args.source.now;
      left_after = g.S.Source.left c.read_input.new.source;
      faults = g.S.Source.faults c.args.source.now;
      faults_after = g.S.Source.faults c.read_input.new.source;
    } in
    fault_made (g.J.Judge.is_judged c.args.judge) inside c.in-Err.fault c.verdict.result
    (λ is. c.in-Err.ensures.unread (ap Err is)) (λ is. c.in-Err.ensures.large (ap Err is)) c.verdict.ensures
