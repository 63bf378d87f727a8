use Rattle.std.proofs.Common.{◌≡◌, map}
use Rattle.std.specs.List.{range_with_len}
use Rattle.flt_step.specs.declared.step.Step.TheVariants.{Show}
use Rattle.flt_script.specs.Load.{plain_parts}
use Rattle.flt_step.specs.Part.{parts_of}
use Rattle.flt_script.proofs.loading.shown_life.Given as goal

abbrev pub invariant-loop-event : goal.invariant-loop-event
invariant-loop-event l = parts_of l.life.items ≡ plain_parts (map Show (range_with_len 0 l.event))
