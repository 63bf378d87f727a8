-- What holds of each item of a list.
use Rattle.std.proofs.Common.{List, [], ◌∷◌, ◌++◌, All}
use Rattle.std.proofs.lemmas.List.Elements.{All-head, All-tail}

abbrev pub Each : {A : Type 0} → (A → Type 0) → List A → Type 0
Each P [] = Unit {0}
Each P (x ∷ xs) = P x × Each P xs

module _ {A : Type 0} (P : A → Type 0) where
  pub of_all : (xs : List A) → All P xs → Each P xs
  of_all [] all = tt
  of_all (x ∷ xs) all = (All-head P x xs all, of_all xs (All-tail P x xs all))

  pub front_of : (xs ys : List A) → Each P (xs ++ ys) → Each P xs
  front_of [] ys each = tt
  front_of (x ∷ xs) ys each = (each.0, front_of xs ys each.1)

  pub back_of : (xs ys : List A) → Each P (xs ++ ys) → Each P ys
  back_of [] ys each = each
  back_of (x ∷ xs) ys each = back_of xs ys each.1

  pub both : (xs ys : List A) → Each P xs → Each P ys → Each P (xs ++ ys)
  both [] ys first second = second
  both (x ∷ xs) ys first second = (first.0, both xs ys first.1 second)

pub each_as : {A : Type 0} (P Q : A → Type 0) → ((x : A) → P x → Q x) → (xs : List A) → Each P xs → Each Q xs
each_as P Q so [] each = tt
each_as P Q so (x ∷ xs) each = (so x each.0, each_as P Q so xs each.1)
