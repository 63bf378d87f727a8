use Rattle.std.proofs.Common.{◌≡◌, Result, Ok, Err, ap}
use Rattle.std.specs.Prelude.{IsErrAnd}
use Rattle.flt_io.specs.declared.stream.StreamFault.{StreamFault}
use Rattle.flt_io.specs.declared.stream.StreamFault.TheVariants.{Memory}
use Rattle.flt_report.specs.Answer.{step_line}
use Rattle.flt_life_model.specs.Answers.{told_with}
use Rattle.flt_live.proofs.Writings.{nothing_written}
use Rattle.flt_live.proofs.line.say.Goals as goal

err_memory : {T : Type 0} (result : Result T StreamFault) → IsErrAnd result (λ fault. fault ≡ Memory) → result ≡ Err Memory
err_memory (Ok value) by = absurd by
err_memory (Err fault) by = ap Err by

pub returns-in_err-put_step-clause-written : goal.returns-in_err-put_step-clause-written
returns-in_err-put_step-clause-written g c =
    nothing_written g.K.Sink.held g.K.Sink.faults c.args.sink.now (step_line c.args.step.now (told_with c.args.response.now c.args.answer)) c.from_residual.result
    (err_memory c.from_residual.result c.from_residual.ensures.1)
