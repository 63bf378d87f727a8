use Rattle.std.proofs.Common.{◌≡◌, ◌++◌}
use Rattle.flt_image.specs.Table.{rows}
use Rattle.flt_image.proofs.table.push_rows.Given as goal

abbrev pub invariant-loop-place : goal.invariant-loop-place
invariant-loop-place l = l.table.items ≡ l.initial.table.items ++ rows l.kind l.length l.first l.place
