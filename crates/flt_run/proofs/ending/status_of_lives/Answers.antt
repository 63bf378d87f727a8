use Rattle.std.proofs.Common.{◌∙◌, sym}
use Rattle.flt_run.proofs.Seen.{status_of_last}
use Rattle.flt_run.proofs.ending.status_of_lives.Goals as goal

pub returns-in-Some : goal.returns-in-Some
returns-in-Some c script = c.status_by.ensures ∙ sym (status_of_last script c.args.lives.now c.in-Some.life.now (sym c.in-Some.ensures.value))
