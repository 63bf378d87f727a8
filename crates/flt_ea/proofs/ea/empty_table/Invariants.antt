use Rattle.std.proofs.Common.{◌≡◌, length}
use Rattle.flt_ea.proofs.ea.empty_table.Given as goal

abbrev pub invariant-loop-position : goal.invariant-loop-position
invariant-loop-position l = length l.table.items ≡ l._position
