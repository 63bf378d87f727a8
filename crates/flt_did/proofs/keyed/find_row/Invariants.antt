use Rattle.std.proofs.Common.{◌≡◌, drop}
use Rattle.std.specs.List.{find}
use Rattle.flt_did.specs.Keyed.{filled, has_key}
use Rattle.flt_did.proofs.keyed.find_row.Given as goal

abbrev pub invariant-loop-row : goal.invariant-loop-row
invariant-loop-row g l =
    find (has_key g.R.Keyed.key_of l.key) (filled l.fn.rows) ≡ find (has_key g.R.Keyed.key_of l.key) (filled (drop l.row-index l.rows))
