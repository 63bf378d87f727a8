use Rattle.std.proofs.Common.{◌≡◌, ◌<◌, ℕ, Ok}
use Rattle.flt_nvm.specs.Driver.{driver_of}
use Rattle.flt_restore.specs.Judging.{application_judged}
use Rattle.flt_restore.proofs.lengths.judge_applications.Given as goal

abbrev pub invariant-loop-block : goal.invariant-loop-block
invariant-loop-block g l = (block : ℕ) → block < l.block → application_judged (driver_of l.nvm).value block ≡ Ok tt
