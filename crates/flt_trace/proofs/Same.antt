-- Texts in two lists, and what a call answered.
use Rattle.std.proofs.Common.{◌≡◌, ◌≢◌, ◌⊎◌, ℕ, ◌+◌, ◌<◌, List, [], ◌∷◌, ◌++◌, true, false, Option, Some, None, Result, Ok, Err, refl, sym, ap, subst, ◌∙◌, get_or, take, length, inl, inr}
use Rattle.std.specs.Prelude.{Bool, MatchOption}
use Rattle.std.proofs.lemmas.Grind.{take_at_read}
use Rattle.hex.specs.declared.error.FromHexError.{FromHexError}
use Rattle.hex.specs.declared.error.FromHexError.TheVariants.{OutOfMemory}
use Rattle.flt_config.specs.declared.persist.Persist.{Persist}
use Rattle.flt_image.specs.Taking.{TakesIn}

-- Bytes that are read are not refused.
pub never : (e : FromHexError) (read : Result (List ℕ) FromHexError) (bytes : List ℕ) → read ≡ Ok bytes → e ≢ OutOfMemory
    → (e ≡ OutOfMemory) ⊎ (read ≡ Err e) → ⊥
never e read bytes is other (inl memory) = other memory
never e read bytes is other (inr refused) = let no : Ok bytes ≡ Err e = sym is ∙ refused in absurd (cc no)

-- What a block that was taken is, and what one is that was not.
pub was_taken : (o : Option Persist) (result : Bool) (before after : Persist) → TakesIn o result before after → result ≡ true → o ≡ Some after
was_taken None result before after is true_is = absurd (cc (sym true_is ∙ is.0))
was_taken (Some state) result before after is true_is = ap Some (sym is.1)

pub was_refused : (o : Option Persist) (result : Bool) (before after : Persist) → TakesIn o result before after → result ≡ false → o ≡ None
was_refused None result before after is false_is = refl
was_refused (Some state) result before after is false_is = absurd (cc (sym false_is ∙ is.0))

-- Lists that are the same so far, and at the next place.
pub one_more : {X : Type 0} (xs ys : List X) (place : ℕ) (d : X) → place < length xs → place < length ys → take place xs ≡ take place ys
    → get_or xs place d ≡ get_or ys place d → take (place + 1) xs ≡ take (place + 1) ys
one_more xs ys place d first second before here =
    (take_at_read xs place d first).1 ∙ (λ i. before i ++ here i ∷ []) ∙ sym (take_at_read ys place d second).1

-- What is said of a value that may be there, by whether it is.
module _ {A : Type 0} (P : Type 0) (Q : A → Type 0) where
  pub if_none : (o : Option A) → o ≡ None → MatchOption o P Q → P
  if_none None is told = told
  if_none (Some x) is told = absurd (cc is)

  pub if_some : (o : Option A) (x : A) → o ≡ Some x → MatchOption o P Q → Q x
  if_some None x is told = absurd (cc is)
  if_some (Some y) x is told = let same : y ≡ x = cc is in subst Q same told
