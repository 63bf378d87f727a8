use Rattle.std.proofs.lemmas.Result.{on_err_weaker}
use Rattle.flt_report.proofs.Fronts.{front_of_parts}
use Rattle.flt_report.proofs.step.put_step.Goals as goal

pub returns-clause-err : goal.returns-clause-err
returns-clause-err c =
    on_err_weaker c.put_answer.result (front_of_parts _ _ _ _ _ c.in_ok-put_words.ensures.ok) c.put_answer.ensures.err
