-- One number more of a range.
use Rattle.std.proofs.Common.{◌≡◌, ℕ, ◌+◌, ◌-◌, ◌*◌, ◌≤◌, arith, ◌++◌, [], ◌∷◌, List, Bool, sym, ◌∙◌, ap}
use Rattle.std.specs.Prelude.{filter, flat_map, map}
use Rattle.std.specs.List.{range_with_len}
use Rattle.std.proofs.lemmas.List.{append_assoc, flat_map_more}
use Rattle.std.proofs.lemmas.List.Elements.{filter-append}
use Rattle.std.proofs.lemmas.List.FromFn.{map-range_with_len_more}
use Rattle.flt_store_model.specs.Layout.{number_of, both_indices, application_number}
use Rattle.flt_store_model.proofs.Choices.{range_more}

pub one_more : (test : ℕ → Bool) (first count next : ℕ) → first + count ≡ next
    → filter test (range_with_len first count) ++ filter test (next ∷ []) ≡ filter test (range_with_len first (count + 1))
one_more test first count next is =
    ap (λ (n : ℕ). filter test (range_with_len first count) ++ filter test (n ∷ [])) (sym is)
    ∙ sym (filter-append test (range_with_len first count) ((first + count) ∷ [])) ∙ sym (ap (filter test) (range_more first count))

-- The lists that a function gives of a range, with one number more.
pub lists_more : {X : Type 0} (f : ℕ → List X) (before : List X) (first count next : ℕ) → first + count ≡ next
    → before ++ flat_map f (range_with_len first count) ++ f next ≡ before ++ flat_map f (range_with_len first (count + 1))
lists_more f before first count next is =
    ap (λ (n : ℕ). before ++ flat_map f (range_with_len first count) ++ f n) (sym is)
    ∙ flat_map_more f before (range_with_len first count) (first + count)
    ∙ sym (ap (λ (ns : List ℕ). before ++ flat_map f ns) (range_more first count))

-- One application block more.
pub applications_more : (before : List ℕ) (block : ℕ) → (before ++ map application_number (range_with_len 0 block)) ++ ((64 + block) * 8) ∷ [] ≡ before ++ map application_number (range_with_len 0 (block + 1))
applications_more before block =
    let here : (64 + block) * 8 ≡ application_number block = omega arith in
    append_assoc before (map application_number (range_with_len 0 block)) (((64 + block) * 8) ∷ [])
    ∙ ap (λ (n : ℕ). before ++ (map application_number (range_with_len 0 block) ++ n ∷ [])) here
    ∙ ap (λ (ns : List ℕ). before ++ ns) (sym (map-range_with_len_more application_number 0 block block (omega arith)))

-- Both indices of one part more.
pub indices_more : (before made : List ℕ) (id : ℕ) → 3 ≤ id → made ≡ before ++ flat_map both_indices (range_with_len 3 (id - 3))
    → (made ++ (id * 8) ∷ []) ++ (id * 8 + 1) ∷ [] ≡ before ++ flat_map both_indices (range_with_len 3 (id + 1 - 3))
indices_more before made id low is =
    let zero_index : id * 8 ≡ number_of id 0 = omega arith in
    let from : 3 + (id - 3) ≡ id = omega (arith, low) in
    let next : id - 3 + 1 ≡ id + 1 - 3 = omega (arith, low) in
    append_assoc made ((id * 8) ∷ []) ((id * 8 + 1) ∷ [])
    ∙ ap (λ (n : ℕ). made ++ (n ∷ (id * 8 + 1) ∷ [])) zero_index
    ∙ ap (λ (ns : List ℕ). ns ++ both_indices id) is
    ∙ lists_more both_indices before 3 (id - 3) id from
    ∙ ap (λ (n : ℕ). before ++ flat_map both_indices (range_with_len 3 n)) next
