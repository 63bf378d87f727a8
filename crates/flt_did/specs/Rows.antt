-- What a contract sees of the rows of a table.
use Rattle.std.specs.Prelude.{ℕ, Bool, ◌==◌, List, Option, filter_map, option_map}
use Rattle.flt_config.specs.declared.config.DidUse.{DidUse}
use Rattle.flt_did.specs.declared.row.Row.{Row}

-- A data identifier by its number.
abbrev pub is_did : ℕ → DidUse → Bool
is_did id did = did.id == id

-- A row without its function: the data identifier, and its width in bytes.
abbrev pub row_did : {F : _} {g : _} → Row F g → DidUse
row_did r = record { id = r.id; width = r.width }

-- The data identifiers of the rows, in the order in which they were added.
abbrev pub rows_dids : {F : _} {g : _} → List (Option (Row F g)) → List DidUse
rows_dids rows = filter_map (option_map row_did) rows
