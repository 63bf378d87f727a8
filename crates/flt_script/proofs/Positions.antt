-- Where something is first in a list.
use Rattle.std.proofs.Common.{◌≡◌, ℕ, ◌<◌, ◌≤◌, List, length, Bool, true, false, cond, Some, None, refl, ltb}
use Rattle.std.proofs.lemmas.Bool.{ltb-true, ltb-false}
use Rattle.std.specs.List.{position, position_or_len}

cut_some : (within : Bool) (place n : ℕ) → cond within (Some place) None ≡ Some n → (within ≡ true) × (n ≡ place)
cut_some true place n e = (refl, cc)
cut_some false place n e = absurd cc

cut_none : (within : Bool) (place : ℕ) → cond within (Some place) None ≡ None → within ≡ false
cut_none true place e = absurd cc
cut_none false place e = refl

pub position_some : {X : Type 0} (test : X → Bool) (xs : List X) (n : ℕ) → position test xs ≡ Some n
    → (position_or_len test xs < length xs) × (n ≡ position_or_len test xs)
position_some test xs n e =
    let found = cut_some (ltb (position_or_len test xs) (length xs)) (position_or_len test xs) n e in
    (ltb-true _ _ found.0, found.1)

pub position_none : {X : Type 0} (test : X → Bool) (xs : List X) → position test xs ≡ None → length xs ≤ position_or_len test xs
position_none test xs e = ltb-false _ _ (cut_none (ltb (position_or_len test xs) (length xs)) (position_or_len test xs) e)
