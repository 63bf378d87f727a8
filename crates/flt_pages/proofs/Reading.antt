-- The bytes of a record, one page more.
use Rattle.std.proofs.Common.{◌≡◌, ◌+◌, ◌-◌, ◌<◌, ℕ, List, [], ◌∷◌, ◌++◌, append-nil, get_or, take, drop, length, length-drop, ◌∙◌, ap, arith}
use Rattle.std.specs.Prelude.{slice_range}
use Rattle.std.proofs.lemmas.List.{get_or-drop, take_more}
use Rattle.std.proofs.lemmas.Grind.{flat_map-append}
use Rattle.flt_pages.proofs.PageBytes.{flat}

pub flat_more : (pages : List (List ℕ)) (first index : ℕ) → first + index < length pages
    → flat (slice_range pages first (first + (index + 1))) ≡ flat (slice_range pages first (first + index)) ++ get_or pages (first + index) []
flat_more pages first index within =
    let one : first + (index + 1) - first ≡ index + 1 = omega arith in
    let so_far : index ≡ first + index - first = omega arith in
    let room : index < length (drop first pages) = omega (arith, length-drop first pages) in
    ap (λ n. flat (take n (drop first pages))) one
    ∙ ap flat (take_more (drop first pages) index [] room)
    ∙ flat_map-append (λ page. page) (take index (drop first pages)) (get_or (drop first pages) index [] ∷ [])
    ∙ ap (λ (l : List ℕ). flat (take index (drop first pages)) ++ l) (append-nil (get_or (drop first pages) index []))
    ∙ (λ i. flat (take (so_far i) (drop first pages)) ++ get_or-drop first pages index [] i)
