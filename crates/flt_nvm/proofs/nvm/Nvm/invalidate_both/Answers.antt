use Rattle.std.proofs.lemmas.Result.{err_from_is_err_and}
use Rattle.flt_nvm.proofs.Jobs.{gives_first, gives_both}
use Rattle.flt_nvm.proofs.nvm.Nvm.invalidate_both.Goals as goal

pub returns-clause-gives : goal.returns-clause-gives
returns-clause-gives g c = gives_both _ _ _ _ c.number-first.ensures.number _ c.number-second.ensures.number _ _ _ _ _ c.in_ok-invalidate.ensures c.invalidate-2.ensures

pub returns-in_err-invalidate-clause-gives : goal.returns-in_err-invalidate-clause-gives
returns-in_err-invalidate-clause-gives g c =
    let p = err_from_is_err_and c.from_residual.result c.from_residual.ensures.1 in
    rw (p.1, p.2) (gives_first _ _ _ _ c.number-first.ensures.number _ _ c.in_err-invalidate.field-0.0 c.in_err-invalidate.ensures)
