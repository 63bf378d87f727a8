-- What a contract sees of a table: the data identifiers that it has, with their widths.
use Rattle.std.specs.Prelude.{ℕ, List}
use Rattle.flt_config.specs.declared.config.DidUse.{DidUse}
use Rattle.flt_did.specs.declared.table.DidTable.{DidTable}
use Rattle.flt_did.specs.Rows.{rows_dids}

-- The data identifiers of a table, in the order in which they were added.
abbrev pub dids_of : {n : ℕ} {F : _} {g : _} → DidTable n F g → List DidUse
dids_of t = rows_dids t.rows.items
