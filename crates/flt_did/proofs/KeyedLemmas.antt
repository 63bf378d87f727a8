-- What a key finds.
use Rattle.std.proofs.Common.{◌≡◌, List, [], ◌∷◌, Some, None, Option, Bool, inl, inr, refl}
use Rattle.std.proofs.lemmas.Bool.{cases_Bool}
use Rattle.std.specs.List.{find}
use Rattle.std.specs.Prelude.{option_map, filter_map}
use Rattle.flt_did.specs.Keyed.{filled}

-- What is seen of the row that is found is what is found among all that is seen.
pub seen_of_found : {A B : Type 0} (see : A → B) (p : B → Bool) (rows : List (Option A))
    → option_map see (find (λ row. p (see row)) (filled rows)) ≡ find p (filter_map (option_map see) rows)
seen_of_found see p [] = refl
seen_of_found see p (None ∷ rows) = seen_of_found see p rows
seen_of_found see p (Some row ∷ rows) =
    elim (cases_Bool (p (see row))) [
      | inl is ↦ rw is refl
      | inr is ↦ rw is (seen_of_found see p rows)
    ]
