use Rattle.std.proofs.Common.{◌-◌, length}
use Rattle.flt_dump.proofs.Passed.{Passed}
use Rattle.flt_dump.proofs.lines.find_image.Given as goal

abbrev pub invariant-loop-end : goal.invariant-loop-end
invariant-loop-end l = Passed l.bytes l.from l.before

abbrev pub decreases-loop-end : goal.decreases-loop-end
decreases-loop-end l = length l.bytes - l.from
