use Rattle.std.proofs.Common.{List, sym, subst}
use Rattle.flt_nvm.specs.declared.table.BlockCfg.{BlockCfg}
use Rattle.flt_nvm.specs.Table.{IsRedundant}
use Rattle.flt_restore.proofs.Rows.{commit_is_redundant}
use Rattle.flt_restore.proofs.reading.read_source.Goals as goal

pub read_copy-requires-clause-redundant : goal.read_copy-requires-clause-redundant
read_copy-requires-clause-redundant g c = subst (λ (table : List BlockCfg). IsRedundant table 2) (sym c.requires.readable.table) commit_is_redundant
