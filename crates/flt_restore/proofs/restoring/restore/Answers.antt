use Rattle.std.proofs.Common.{◌≡◌, refl, sym, ◌∙◌, subst}
use Rattle.flt_nvm.specs.Driver.{driver_of}
use Rattle.flt_restore.specs.Restored.{Refuses, generation}
use Rattle.flt_restore.specs.declared.fault.StartFault.TheVariants.{SequenceSpent}
use Rattle.flt_restore.proofs.Judged.{judged_of}
use Rattle.flt_restore.proofs.Telling.{handed_on, each_fault}
use Rattle.flt_restore.proofs.Failing.{was_flash}
use Rattle.flt_restore.proofs.restoring.restore.Goals as goal

pub returns-in_err-found-clause-refused : goal.returns-in_err-found-clause-refused
returns-in_err-found-clause-refused g c =
    let config = c.args.config.now in
    let start = driver_of c.args.nvm.now in
    let after = driver_of c.judge.new.nvm in
    each_fault (Refuses config start after) c.from_residual.result
    (handed_on (Refuses config start after) c.from_residual.result _ c.from_residual.ensures.1
    (c.in_err-found.ensures.refused _ refl))

pub returns-then-spent-clause-refused : goal.returns-then-spent-clause-refused
returns-then-spent-clause-refused g c = λ fault is.
    let config = c.args.config.now in
    let start = driver_of c.args.nvm.now in
    let after = driver_of c.judge.new.nvm in
    let found = c.in_ok-found.found.commit in
    let same : SequenceSpent ≡ fault = cc is in
    subst (Refuses config start after) same
    ((generation found c.judge.new.out, judged_of config start after found c.judge.new.out c.in_ok-found.ensures.restored), sym c.spent.ensures ∙ c.if-spent.true)

pub returns-in_err-found-clause-unread : goal.returns-in_err-found-clause-unread
returns-in_err-found-clause-unread g c = λ flash. c.in_err-found.ensures.unread (was_flash c.from_residual.result _ c.from_residual.ensures.1 flash)
