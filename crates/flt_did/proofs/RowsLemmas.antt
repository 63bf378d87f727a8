-- The data identifiers of a table: with one more row, and found by their numbers.
use Rattle.std.proofs.Common.{◌≡◌, ℕ, nat_eq, List, [], ◌∷◌, ◌++◌, Some, Option, inl, inr, eqb-true}
use Rattle.std.proofs.lemmas.Bool.{cases_Bool}
use Rattle.std.specs.List.{find}
use Rattle.std.specs.Prelude.{option_map}
use Rattle.flt_config.specs.declared.config.DidUse.{DidUse}
use Rattle.std.proofs.lemmas.List.Elements.{filter_map-append}
use Rattle.flt_did.specs.declared.row.Row.{Row}
use Rattle.flt_did.proofs.KeyedLemmas.{seen_of_found}
use Rattle.flt_did.specs.Keyed.{filled, has_key}
use Rattle.flt_did.specs.Rows.{rows_dids, row_did, is_did}

pub rows_dids-push : {F : _} {g : _} (rows : List (Option (Row F g))) (r : Row F g)
    → rows_dids (rows ++ Some r ∷ []) ≡ rows_dids rows ++ row_did r ∷ []
rows_dids-push rows r = filter_map-append _ rows (Some r ∷ [])

-- A data identifier that is there with a width.
pub found_width : (dids : List DidUse) (did : DidUse) → option_map (λ d. d.width) (find (is_did did.id) dids) ≡ Some did.width → find (is_did did.id) dids ≡ Some did
found_width [] did e = absurd (cc)
found_width (first ∷ dids) did e =
    elim (cases_Bool (nat_eq first.id did.id)) [
      | inl own ↦
          let width : Some first.width ≡ Some did.width = rw own at e in
          let id_is = eqb-true first.id did.id own in
          let width_is : first.width ≡ did.width = cc in
          rw own (λ i. Some (record { id = id_is i; width = width_is i }))
      | inr other ↦ rw other (found_width dids did (rw other at e))
    ]

-- The data identifier of the row that its number finds.
pub found_did : {F : _} {g : _} (rows : List (Option (Row F g))) (id : ℕ) (row : Option (Row F g))
    → row ≡ find (has_key (λ r. r.id) id) (filled rows) → option_map row_did row ≡ find (is_did id) (rows_dids rows)
found_did rows id row is = rw is (seen_of_found row_did (is_did id) rows)
