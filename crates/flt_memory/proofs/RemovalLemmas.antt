-- Where a list is filtered, it gets shorter exactly where an element does not pass.
use Rattle.std.proofs.Common.{rules, ℕ, ◌+◌, ◌<◌, ◌≤◌, ◌≡◌, ◌∙◌, ◌↔◌, nat_lt, Bool, true, false, not, cond, List, [], ◌∷◌, length, filter, position, Some, None, IsTrue, IsSome, refl, sym, ap, subst, ⊎_elim, arith}
use Rattle.std.proofs.lemmas.Bool.{cases_lt, lt-ltb, le-ltb}
use Rattle.std.specs.List.{prefix_len}

all_at : {X : Type 0} (passes : Bool) (x : X) (xs kept : List X) (front : ℕ) → (length xs ≤ front → length kept ≡ length xs) →
    length (x ∷ xs) ≤ cond passes (1 + front) 0 → length (cond passes (x ∷ kept) kept) ≡ length (x ∷ xs)
all_at true x xs kept front all h = omega (arith, all (omega arith))
all_at false x xs kept front all h = absurd (omega arith)

less_at : {X : Type 0} (passes : Bool) (x : X) (xs kept : List X) (front : ℕ) → (front < length xs → length kept < length xs) → length kept ≤ length xs →
    cond passes (1 + front) 0 < length (x ∷ xs) → length (cond passes (x ∷ kept) kept) < length (x ∷ xs)
less_at true x xs kept front less most h = omega (arith, less (omega arith))
less_at false x xs kept front less most h = omega arith

most_at : {X : Type 0} (passes : Bool) (x : X) (xs kept : List X) → length kept ≤ length xs → length (cond passes (x ∷ kept) kept) ≤ length (x ∷ xs)
most_at true x xs kept most = omega arith
most_at false x xs kept most = omega arith

module _ {X : Type 0} (passes : X → Bool) where
  most_kept : (xs : List X) → length (filter passes xs) ≤ length xs
  most_kept [] = omega arith
  most_kept (x ∷ xs) = most_at (passes x) x xs (filter passes xs) (most_kept xs)

  all_kept : (xs : List X) → length xs ≤ prefix_len passes xs → length (filter passes xs) ≡ length xs
  all_kept [] h = refl
  all_kept (x ∷ xs) h = all_at (passes x) x xs (filter passes xs) (prefix_len passes xs) (all_kept xs) h

  less_kept : (xs : List X) → prefix_len passes xs < length xs → length (filter passes xs) < length xs
  less_kept [] h = absurd (omega arith)
  less_kept (x ∷ xs) h = less_at (passes x) x xs (filter passes xs) (prefix_len passes xs) (less_kept xs) (most_kept xs) h

  shorter_where : (xs : List X) → nat_lt (length (filter passes xs)) (length xs) ≡ nat_lt (prefix_len passes xs) (length xs)
  shorter_where xs =
      ⊎_elim
      (λ h. let less = less_kept xs h in lt-ltb (length (filter passes xs)) (length xs) less ∙ sym (lt-ltb (prefix_len passes xs) (length xs) h))
      (λ h. let all = all_kept xs h in le-ltb (length (filter passes xs)) (length xs) (omega arith) ∙ sym (le-ltb (prefix_len passes xs) (length xs) h))
      (cases_lt (prefix_len passes xs) (length xs))

some_where : (found : Bool) (place : ℕ) → IsTrue found ↔ IsSome (cond found (Some place) None)
some_where true place = search rules
some_where false place = search rules

-- A list without the elements that pass is shorter exactly where one is found.
pub shorter_tells : {X : Type 0} (passes : X → Bool) (old new : List X) (before now : ℕ) → new ≡ filter (λ x. not (passes x)) old → before ≡ length old →
    now ≡ length new → IsTrue (nat_lt now before) ↔ IsSome (position passes old)
shorter_tells {X = X} passes old new before now filtered before_is now_is =
    let rest = λ (x : X). not (passes x) in
    let same : nat_lt (prefix_len rest old) (length old) ≡ nat_lt now before =
    sym (shorter_where rest old) ∙ ap (λ k. nat_lt k (length old)) (sym (now_is ∙ ap length filtered)) ∙ ap (λ k. nat_lt now k) (sym before_is) in
    subst (λ b. IsTrue b ↔ IsSome (cond (nat_lt (prefix_len rest old) (length old)) (Some (prefix_len rest old)) None)) same
    (some_where (nat_lt (prefix_len rest old) (length old)) (prefix_len rest old))
