use Rattle.std.proofs.Common.{◌≡◌, map, take}
use Rattle.std.specs.List.{All}
use Rattle.flt_pages.specs.declared.numbers.Row.{Row}
use Rattle.flt_pages.specs.Numbers.{IsRowOf}
use Rattle.flt_pages.proofs.numbers.Numbers.make.Given as goal

abbrev pub invariant-loop-index : goal.invariant-loop-index
invariant-loop-index l = record {
  names : map (λ (row : Row). row.number) l.rows.items ≡ take l.index l.number-items;
  rows : All (IsRowOf l.number-items) l.rows.items;
}
