-- The list of indices that a loop over the blocks makes, one block after the other.
use Rattle.std.proofs.Common.{◌≡◌, ℕ, ◌+◌, ◌-◌, ◌<◌, ◌≤◌, List, length, map, inl, inr, sym, ◌∙◌, ap, subst, arith}
use Rattle.std.specs.Prelude.{slice_index_or, slice_set}
use Rattle.std.specs.List.{range_with_len}
use Rattle.std.proofs.lemmas.Bool.{cases_eq}
use Rattle.std.proofs.lemmas.List.{get_or-set_same, get_or-set_other, get_or_default, same_lists}
use Rattle.std.proofs.lemmas.List.FromFn.{get_or-map-range_with_len, length-map-range_with_len}
use Rattle.flt_store_model.specs.Layout.{parts, end_part}

-- One index more is set.
pub index_more : (Is : ℕ → ℕ → Type 0) (index : List ℕ) (id value : ℕ) → length index ≡ parts → 3 ≤ id → id < end_part
    → ((other : ℕ) → 3 ≤ other → other < id → Is other (slice_index_or index (other - 3) 0)) → Is id value
    → (other : ℕ) → 3 ≤ other → other < id + 1 → Is other (slice_index_or (slice_set index (id - 3) value) (other - 3) 0)
index_more Is index id value size low high before here other least below = elim (cases_eq other id) [
  | inl same ↦
      let at : slice_index_or (slice_set index (id - 3) value) (id - 3) 0 ≡ value = get_or-set_same index (id - 3) value 0 (omega (arith, size, low, high)) in
      subst (λ (n : ℕ). Is n (slice_index_or (slice_set index (id - 3) value) (n - 3) 0)) (sym same) (subst (Is id) (sym at) here)
  | inr apart ↦
      subst (Is other) (sym (get_or-set_other index (id - 3) (other - 3) value 0 (λ equal. apart (omega (arith, equal, least, low)))))
      (before other least (omega (arith, below, apart)))
]

-- All indices are set.
pub all_indices : (f : ℕ → ℕ) (index : List ℕ) → length index ≡ parts → ((id : ℕ) → 3 ≤ id → id < end_part → slice_index_or index (id - 3) 0 ≡ f id) → index ≡ map f (range_with_len 3 parts)
all_indices f index size each =
    let made = length-map-range_with_len f 3 parts in
    same_lists index (map f (range_with_len 3 parts)) (size ∙ sym made) (λ k d below.
    let within : k < parts = omega (arith, below, size) in
    let place : 3 + k - 3 ≡ k = omega arith in
    get_or_default index k d 0 below
    ∙ sym (ap (λ (n : ℕ). slice_index_or index n 0) place)
    ∙ each (3 + k) (omega arith) (omega (arith, within))
    ∙ sym (get_or-map-range_with_len f 3 parts k (3 + k) d within (omega arith)))
