-- Sums over what was made of elements.
use Rattle.std.proofs.Common.{◌≡◌, ℕ, List, [], ◌∷◌, map, arith, refl}
use Rattle.std.specs.Prelude.{sum_by}
use Rattle.std.proofs.lemmas.List.Sums.{sum_by-cons}

pub sum_mapped : {X Y : Type 0} (f : Y → ℕ) (g : X → Y) (xs : List X) → sum_by f (map g xs) ≡ sum_by (λ x. f (g x)) xs
sum_mapped f g [] = refl
sum_mapped f g (x ∷ xs) =
    let one = sum_by-cons f (g x) (map g xs) in
    let other = sum_by-cons (λ x. f (g x)) x xs in
    let rest = sum_mapped f g xs in
    omega (arith, one, other, rest)
