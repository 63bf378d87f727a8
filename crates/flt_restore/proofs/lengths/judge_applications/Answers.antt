use Rattle.std.proofs.Common.{◌∙◌, sym, ap, arith}
use Rattle.flt_nvm.specs.Driver.{driver_of}
use Rattle.flt_restore.specs.Judging.{as_told, application_judged}
use Rattle.flt_restore.proofs.Telling.{handed_as, judged_ok}
use Rattle.flt_restore.proofs.Blocks.{application_fine, application_refused, all_applications_fine}
use Rattle.flt_restore.proofs.lengths.judge_applications.Goals as goal

pub returns-in_err-judge_application : goal.returns-in_err-judge_application
returns-in_err-judge_application g c =
    let value = (driver_of c.args.nvm.now).value in
    handed_as c.from_residual.result _ c.in_err-judge_application.field-0.0 c.from_residual.ensures.1
    (application_refused value c.args.config.now c.loop-block.block c.in_err-judge_application.field-0.0 (omega (arith, c.loop-block-test.true)) c.loop-block.invariant
    (sym c.in_err-judge_application.was ∙ c.judge_application.ensures))

pub loop-block-preserved : goal.loop-block-preserved
loop-block-preserved g c =
    let value = (driver_of c.args.nvm.now).value in
    application_fine value c.loop-block.block c.loop-block.invariant
    (judged_ok c.args.config.now (application_judged value c.loop-block.block) tt (sym c.in_ok-judge_application.was ∙ c.judge_application.ensures))

pub returns : goal.returns
returns g c =
    let value = (driver_of c.args.nvm.now).value in
    sym (ap (as_told c.args.config.now) (all_applications_fine value c.loop-block.block (omega (arith, c.loop-block-test.false)) c.loop-block.invariant))
