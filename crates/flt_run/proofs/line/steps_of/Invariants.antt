use Rattle.std.proofs.Common.{◌≡◌, take}
use Rattle.std.specs.Prelude.{sum_by}
use Rattle.flt_step.specs.Part.{part_of}
use Rattle.flt_step.specs.Step.{steps_of_part}
use Rattle.flt_run.proofs.line.steps_of.Given as goal

abbrev pub invariant-loop-part : goal.invariant-loop-part
invariant-loop-part l = l.count ≡ sum_by (λ part. steps_of_part (part_of part)) (take l.part-index l.parts)
