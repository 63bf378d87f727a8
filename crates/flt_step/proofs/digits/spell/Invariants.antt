use Rattle.std.proofs.Common.{◌≡◌, ◌*◌, take}
use Rattle.flt_step.specs.Words.{spaced}
use Rattle.flt_step.proofs.digits.spell.Given as goal

abbrev pub invariant-loop-index : goal.invariant-loop-index
invariant-loop-index l = take (3 * l.index) l.text ≡ spaced (take l.index l.bytes)
