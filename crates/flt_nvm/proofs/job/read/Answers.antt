use Rattle.std.proofs.Common.{arith}
use Rattle.std.proofs.lemmas.Grind.{common_steps}
use Rattle.std.proofs.lemmas.Result.{err_from_is_err_and}
use Rattle.flt_flash.specs.declared.blocks.Found.{Found}
use Rattle.flt_nvm.specs.declared.got.Got.{Got}
use Rattle.flt_nvm.proofs.Looking.{looks_ok, looks_err, reads_number}
use Rattle.flt_nvm.proofs.job.read.Goals as goal

pub returns-in-Bytes : goal.returns-in-Bytes
returns-in-Bytes g c = reads_number _ _ _ _ _ _ _ (looks_ok c.args.block 3 _ _ _ _ c.in_ok-length.ensures.tries) (grind (arith, common_steps)) tt

pub returns-in-Missing : goal.returns-in-Missing
returns-in-Missing g c = reads_number _ _ _ _ _ _ _ (looks_ok c.args.block 3 _ _ _ _ c.in_ok-length.ensures.tries) (grind (arith, common_steps)) tt

pub returns-in-Invalid : goal.returns-in-Invalid
returns-in-Invalid g c = reads_number _ _ _ _ _ _ _ (looks_ok c.args.block 3 _ _ _ _ c.in_ok-length.ensures.tries) (grind (arith, common_steps)) tt

pub returns-in_err-length : goal.returns-in_err-length
returns-in_err-length g c =
    let p = err_from_is_err_and c.from_residual.result c.from_residual.ensures.1 in
    rw (p.1, p.2) (reads_number _ _ _ _ _ _ _ (looks_err Found Got c.args.block 3 _ _ c.in_err-length.field-0.0 c.in_err-length.ensures.tries) tt c.in_err-length.ensures.nothing)
