use Rattle.std.proofs.Common.{◌≡◌, take}
use Rattle.std.specs.Prelude.{sum_by}
use Rattle.flt_step.specs.Part.{parts_of}
use Rattle.flt_step.specs.Step.{steps_of_parts}
use Rattle.flt_run.proofs.line.step_count.Given as goal

abbrev pub invariant-loop-life : goal.invariant-loop-life
invariant-loop-life l = l.count ≡ sum_by (λ life. steps_of_parts (parts_of life.items)) (take l.life-index l.lives)
