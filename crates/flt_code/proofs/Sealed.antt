-- The bytes of a sealed page.
use Rattle.std.proofs.Common.{◌≡◌, ℕ, zero, suc, ◌+◌, ◌-◌, ◌<◌, List, [], ◌∷◌, map, length, get_or, set, get_or-set_same, get_or-set_other, length-set, length-append, take, refl, sym, ◌∙◌, ap, below_more, arith}
use Rattle.std.proofs.lemmas.List.{ext_get_or, get_or_append_left, get_or-append-add, length-map, take_at}
use Rattle.std.proofs.Common.{inl, inr}
use Rattle.std.proofs.lemmas.Bool.{cases_lt}
use Rattle.flt_code.specs.Seal.{complement, sealed}

get_or-map : (xs : List ℕ) (k : ℕ) → k < length xs → get_or (map complement xs) k 0 ≡ complement (get_or xs k 0)
get_or-map [] k lt = absurd (omega arith)
get_or-map (x ∷ xs) zero lt = refl
get_or-map (x ∷ xs) (suc k) lt = get_or-map xs k (omega arith)

module _ (bytes : List ℕ) (size : length bytes ≡ 16) where
  pub length-sealed : length (sealed bytes) ≡ 32
  unfolding sealed
  length-sealed = omega (arith, length-append bytes (map complement bytes), length-map bytes complement)

  pub sealed_low : (k : ℕ) → k < 16 → get_or (sealed bytes) k 0 ≡ get_or bytes k 0
  unfolding sealed
  sealed_low k lt = get_or_append_left bytes (map complement bytes) 0 k (omega arith)

  pub sealed_high : (k : ℕ) → k < 16 → get_or (sealed bytes) (16 + k) 0 ≡ 255 - get_or bytes k 0
  unfolding sealed
  sealed_high k lt =
      ap (λ n. get_or (sealed bytes) (n + k) 0) (sym size)
      ∙ get_or-append-add bytes (map complement bytes) k 0
      ∙ get_or-map bytes k (omega arith)

  pub take-sealed : take 16 (sealed bytes) ≡ bytes
  unfolding sealed
  take-sealed = take_at bytes (map complement bytes) 16 size

  pub sealed_from : (page : List ℕ) → length page ≡ 32
      → ((k : ℕ) → k < 16 → get_or page k 0 ≡ get_or bytes k 0)
      → ((k : ℕ) → k < 16 → get_or page (16 + k) 0 ≡ 255 - get_or bytes k 0)
      → page ≡ sealed bytes
  sealed_from page whole low high = ext_get_or 0 page (sealed bytes) (whole ∙ sym length-sealed) (λ k lt. elim (cases_lt k 16) [
    | inl below ↦ low k below ∙ sym (sealed_low k below)
    | inr above ↦
        let j : k ≡ 16 + (k - 16) = omega arith in
        rw j (high (k - 16) (omega arith) ∙ sym (sealed_high (k - 16) (omega arith)))
  ])

module _ (page bytes : List ℕ) (n : ℕ) (whole : length page ≡ 32) (within : n < 16) where
  pub low_more : (x y : ℕ) → x ≡ get_or bytes n 0 → ((k : ℕ) → k < n → get_or page k 0 ≡ get_or bytes k 0) → (k : ℕ) → k < n + 1 → get_or (set (set page n x) (16 + n) y) k 0 ≡ get_or bytes k 0
  low_more x y is before = below_more _ n
      (λ k lt. get_or-set_other (set page n x) (16 + n) k y 0 (omega arith) ∙ get_or-set_other page n k x 0 (omega arith) ∙ before k lt)
      (get_or-set_other (set page n x) (16 + n) n y 0 (omega arith) ∙ get_or-set_same page n x 0 (omega arith) ∙ is)

  pub high_more : (x y : ℕ) → y ≡ 255 - get_or bytes n 0 → ((k : ℕ) → k < n → get_or page (16 + k) 0 ≡ 255 - get_or bytes k 0) → (k : ℕ) → k < n + 1 → get_or (set (set page n x) (16 + n) y) (16 + k) 0 ≡ 255 - get_or bytes k 0
  high_more x y is before = below_more _ n
      (λ k lt. get_or-set_other (set page n x) (16 + n) (16 + k) y 0 (omega arith) ∙ get_or-set_other page n (16 + k) x 0 (omega arith) ∙ before k lt)
      (get_or-set_same (set page n x) (16 + n) y 0 (omega (arith, length-set page n x)) ∙ is)
