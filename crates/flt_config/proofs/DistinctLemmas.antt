-- One more element: its key occurs before it, or the keys are still distinct.
use Rattle.std.proofs.Common.{◌≡◌, ◌≢◌, ℕ, ◌+◌, ◌<◌, ◌≤◌, List, length, take, get_or, position, Some, None, true, false, Bool, ◌==◌, arith, ap, sym, ◌∙◌, eqb, eqb-true, eq-eqb, length-take, AllPairs}
use Rattle.std.specs.List.{position_or_len}
use Rattle.std.proofs.lemmas.List.{get_or-take, get_or_default, take_more}
use Rattle.std.proofs.lemmas.List.Quantifiers.{position-Some, all_pairs_push}
use Rattle.std.proofs.lemmas.List.Sums.{fails_before_first}

-- Where nothing passes, each element fails.
pub position-None : {X : Type 0} (p : X → Bool) (xs : List X) (k : ℕ) (d : X) → position p xs ≡ None → k < length xs
    → p (get_or xs k d) ≡ false
position-None p xs k d none h =
    let far : length xs ≤ position_or_len p xs = grind arith in
    fails_before_first p xs k d (omega arith)

module _ {X : Type 0} (key : X → ℕ) (xs : List X) (second : ℕ) (x : X) (h : second < length xs) (is : x ≡ get_or xs second x) where
  -- The key of x is that at second.
  key_at : (d : X) → key (get_or xs second d) ≡ key x
  key_at d = ap key (get_or_default xs second d x h ∙ sym is)

  key_before : (k : ℕ) (d : X) → k < second → key (get_or (take second xs) k d) ≡ key (get_or xs k d)
  key_before k d below = ap key (get_or-take second xs k d below)

  -- The key of x occurs at first, and at no place before.
  pub record StandsFirst (first : ℕ) : Type 0 where
    pub order : first < second
    pub same : (d : X) → key (get_or xs first d) ≡ key (get_or xs second d)
    pub none_before : (k : ℕ) (d : X) → k < first → key (get_or xs k d) ≢ key (get_or xs second d)

  pub stands_first : (first : ℕ) → position (λ y. key y == key x) (take second xs) ≡ Some first → StandsFirst first
  stands_first first found =
      let at : (d : X) → (first < length (take second xs)) × (eqb (key (get_or (take second xs) first d)) (key x) ≡ true) × ((k : ℕ) → k < first → eqb (key (get_or (take second xs) k d)) (key x) ≡ false) =
      λ d. position-Some (λ y. key y == key x) (take second xs) first d found in
      let order : first < second = omega (arith, (at x).0, length-take second xs) in
      record {
        order = order;
        same = λ d. sym (key_before first d order) ∙ eqb-true _ _ (at d).1 ∙ sym (key_at d);
        none_before = λ k d below same.
            let under : k < second = omega arith in
            let known = (at d).2 k below in
            let equal = eq-eqb _ _ (key_before k d under ∙ same ∙ key_at d) in
            cc;
      }

  pub distinct_more : AllPairs (λ a b. key a ≢ key b) (take second xs)
      → position (λ y. key y == key x) (take second xs) ≡ None → AllPairs (λ a b. key a ≢ key b) (take (second + 1) xs)
  distinct_more distinct none =
      rw (take_more xs second x h)
      (all_pairs_push (λ a b. key a ≢ key b) (take second xs) (get_or xs second x) distinct
      (λ k d within same.
      let known = position-None (λ y. key y == key x) (take second xs) k d none within in
      let equal = eq-eqb _ _ (same ∙ key_at x) in
      cc))
