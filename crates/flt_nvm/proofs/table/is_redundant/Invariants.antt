use Rattle.std.proofs.Common.{◌↔◌, drop}
use Rattle.flt_nvm.specs.Table.{IsRedundant}
use Rattle.flt_nvm.proofs.table.is_redundant.Given as goal

abbrev pub invariant-loop-block : goal.invariant-loop-block
invariant-loop-block l = IsRedundant l.fn.table l.id ↔ IsRedundant (drop l.block-index l.table) l.id
