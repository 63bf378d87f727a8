use Rattle.std.proofs.Common.{◌≡◌, ◌+◌}
use Rattle.flt_script.specs.Load.{load_number}
use Rattle.flt_script.proofs.loading.first_number.Given as goal

abbrev pub invariant-loop-place : goal.invariant-loop-place
invariant-loop-place l = l.number ≡ load_number l.count (l._place + 1)
