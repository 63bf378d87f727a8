-- Choices by a test, and tests of each number of a range.
use Rattle.std.proofs.Common.{List, [], ◌∷◌, ◌++◌, ◌≡◌, ℕ, zero, suc, ◌+◌, ◌<◌, Bool, true, false, Some, None, refl, sym, ◌∙◌, subst, arith, ap}
use Rattle.std.specs.Prelude.{if◌then◌else◌}
use Rattle.std.specs.List.{list_all, range_with_len}
use Rattle.std.proofs.lemmas.Bool.{and_parts, and_from}
use Rattle.std.proofs.lemmas.List.{map-id}
use Rattle.std.proofs.lemmas.List.FromFn.{map-range_with_len_more}

-- What is chosen by a test that passed, or failed.
pub chosen : {A : Type 0} (b : Bool) (x y : A) → b ≡ true → (if b then x else y) ≡ x
chosen true x y is = refl
chosen false x y is = absurd (cc)

pub not_chosen : {A : Type 0} (b : Bool) (x y : A) → b ≡ false → (if b then x else y) ≡ y
not_chosen true x y is = absurd (cc)
not_chosen false x y is = refl

-- Where a value was chosen, the test passed.
pub some_chosen : {A : Type 0} (b : Bool) (x y : A) → (if b then Some x else None) ≡ Some y → (b ≡ true) × (x ≡ y)
some_chosen true x y is = (refl, cc)
some_chosen false x y is = absurd (cc)

-- A test of each number of a range.
pub all_at : (test : ℕ → Bool) (first count : ℕ) → list_all test (range_with_len first count) ≡ true → (k : ℕ) → k < count → test (first + k) ≡ true
all_at test first zero all k below = absurd (omega (arith, below))
all_at test first (suc count) all zero below =
    subst (λ (n : ℕ). test n ≡ true) (omega arith) (and_parts (test first) (list_all test (range_with_len (first + 1) count)) all).0
all_at test first (suc count) all (suc k) below =
    subst (λ (n : ℕ). test n ≡ true) (omega arith)
    (all_at test (first + 1) count (and_parts (test first) (list_all test (range_with_len (first + 1) count)) all).1 k (omega (arith, below)))

pub all_from : (test : ℕ → Bool) (first count : ℕ) → ((k : ℕ) → k < count → test (first + k) ≡ true) → list_all test (range_with_len first count) ≡ true
all_from test first zero each = refl
all_from test first (suc count) each =
    and_from (test first) (list_all test (range_with_len (first + 1) count)) (subst (λ (n : ℕ). test n ≡ true) (omega arith) (each 0 (omega arith)))
    (all_from test (first + 1) count (λ k below. subst (λ (n : ℕ). test n ≡ true) (omega arith) (each (suc k) (omega (arith, below)))))

-- One number more.
pub range_more : (first count : ℕ) → range_with_len first (count + 1) ≡ range_with_len first count ++ (first + count) ∷ []
range_more first count =
    sym (map-id (range_with_len first (count + 1))) ∙ map-range_with_len_more (λ n. n) first count (first + count) refl
    ∙ ap (λ (ns : List ℕ). ns ++ (first + count) ∷ []) (map-id (range_with_len first count))
