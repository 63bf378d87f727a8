-- What a seat holds in the one slot.
use Rattle.std.proofs.Common.{◌≡◌, ℕ, List, [], ◌∷◌, Option, Some, None, sym, ap, ◌∙◌}

module _ {W : Type 0} where
  abbrev pub value_or : W → Option W → W
  value_or w (Some vault) = vault
  value_or w None = w

  abbrev first_or : W → List (ℕ × Option W) → W
  first_or w [] = w
  first_or w (x ∷ xs) = value_or w x.1

  -- A seat holds one value there.
  pub one_value : (held xs ys : List (ℕ × Option W)) (a b : W) → held ≡ (0, Some a) ∷ xs → held ≡ (0, Some b) ∷ ys → a ≡ b
  one_value held xs ys a b is_a is_b = ap (first_or a) (sym is_a ∙ is_b)
