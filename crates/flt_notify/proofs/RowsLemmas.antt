-- The kinds of the rows, with one more, and found.
use Rattle.std.proofs.Common.{◌≡◌, ℕ, List, [], ◌∷◌, ◌++◌, Some, Option}
use Rattle.std.proofs.lemmas.List.Elements.{filter_map-append}
use Rattle.std.specs.List.{find}
use Rattle.std.specs.Prelude.{option_map}
use Rattle.flt_did.specs.Keyed.{filled, has_key}
use Rattle.flt_did.proofs.KeyedLemmas.{seen_of_found}
use Rattle.flt_notify.specs.declared.row.Row.{Row}
use Rattle.flt_notify.specs.Rows.{rows_kinds, row_kind, is_same_kind}

pub rows_kinds-push : {F : _} {g : _} (rows : List (Option (Row F g))) (r : Row F g)
    → rows_kinds (rows ++ Some r ∷ []) ≡ rows_kinds rows ++ row_kind r ∷ []
rows_kinds-push rows r = filter_map-append _ rows (Some r ∷ [])

-- The kind of the row that it finds.
pub found_kind : {F : _} {g : _} (rows : List (Option (Row F g))) (kind : ℕ) (row : Option (Row F g))
    → row ≡ find (has_key (λ r. r.kind) kind) (filled rows) → option_map row_kind row ≡ find (is_same_kind kind) (rows_kinds rows)
found_kind rows kind row is = rw is (seen_of_found row_kind (is_same_kind kind) rows)
