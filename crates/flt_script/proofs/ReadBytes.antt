-- Reading words that spell bytes, one after the other.
use Rattle.std.proofs.Common.{◌≡◌, ℕ, ◌+◌, ◌<◌, ◌≤◌, nat_eq, leb, eqb-true, Bool, true, false, cond, ◌&&◌, List, [], ◌∷◌, ◌++◌, length, Option, Some, None, refl, sym, ap, ◌∙◌, arith, append_assoc, append-nil, length-append}
use Rattle.std.specs.Prelude.{option_map}
use Rattle.std.proofs.lemmas.Bool.{lt-ltb, lt-leb, le-leb}
use Rattle.std.proofs.lemmas.Bool.Decides.{nat_tests}
use Rattle.flt_script.specs.Bytes.{each, bytes_of}
use Rattle.flt_script.specs.Gives.{◌⇒◌}
use Rattle.flt_script.specs.Numeral.{hexadecimal}

-- These bytes are spelled by the words before those that are left.
pub record IsOn (most : ℕ) (words left : List (List ℕ)) (bytes : List ℕ) : Type 0 where
  pub rest : each (hexadecimal 2) words ≡ option_map (λ others. bytes ++ others) (each (hexadecimal 2) left)
  pub count : length bytes + length left ≡ length words
  pub few : length bytes ≤ most

unchanged : (given : Option (List ℕ)) → given ≡ option_map (λ others. [] ++ others) given
unchanged None = refl
unchanged (Some bytes) = refl

pub starts : (most : ℕ) (words : List (List ℕ)) → IsOn most words words []
starts most words = record { rest = unchanged (each (hexadecimal 2) words); count = omega arith; few = omega arith }

joined : (bytes : List ℕ) (byte : ℕ) (others : Option (List ℕ))
    → option_map (λ more. bytes ++ more) (others ⇒ λ more. Some (byte ∷ more)) ≡ option_map (λ more. (bytes ++ byte ∷ []) ++ more) others
joined bytes byte None = refl
joined bytes byte (Some more) = ap (λ (all : List ℕ). Some all) (sym (append_assoc bytes (byte ∷ []) more))

none_either : (test : Bool) (given : Option (List ℕ)) → given ≡ None → cond test given None ≡ None
none_either true given e = e
none_either false given e = refl

has_room : (count most : ℕ) → nat_eq count most ≡ false → count ≤ most → count < most
has_room count most not_full few = grind (arith, nat_tests)

is_some_number : (n : ℕ) → nat_eq n 0 ≡ false → 0 < n
is_some_number n other = grind (arith, nat_tests)

module _ (most : ℕ) (words : List (List ℕ)) (bytes : List ℕ) where
  module _ (word : List ℕ) (left : List (List ℕ)) (on : IsOn most words (word ∷ left) bytes) where
    -- One more word.
    pub goes_on : (byte : ℕ) → nat_eq (length bytes) most ≡ false → hexadecimal 2 word ≡ Some byte → IsOn most words left (bytes ++ byte ∷ [])
    goes_on byte not_full e = let room = has_room (length bytes) most not_full on.few in record {
      rest = on.rest ∙ rw e (joined bytes byte (each (hexadecimal 2) left));
      count = rw length-append (omega (arith, on.count));
      few = rw length-append (omega (arith, room));
    }

    -- A word that spells no byte.
    pub stops : hexadecimal 2 word ≡ None → bytes_of most words ≡ None
    unfolding bytes_of
    stops e = none_either (leb 1 (length words) && leb (length words) most) (each (hexadecimal 2) words) (on.rest ∙ rw e refl)

    -- A word too many.
    pub full : nat_eq (length bytes) most ≡ true → bytes_of most words ≡ None
    unfolding bytes_of
    full e =
        let more : most < length words = omega (arith, on.count, eqb-true (length bytes) most e) in
        let some : 0 < length words = omega arith in
        rw (lt-leb (length words) most more, lt-ltb 0 (length words) some) refl

  -- No word is left.
  pub ends : IsOn most words [] bytes → nat_eq (length bytes) 0 ≡ false → bytes_of most words ≡ Some bytes
  unfolding bytes_of
  ends on some =
      let all : 0 < length words = omega (arith, on.count, is_some_number (length bytes) some) in
      let fit : length words ≤ most = omega (arith, on.count, on.few) in
      rw (lt-ltb 0 (length words) all, le-leb (length words) most fit, on.rest, append-nil bytes) refl

-- There is no word.
pub empty : (most : ℕ) (words : List (List ℕ)) (bytes : List ℕ) → IsOn most words [] bytes → nat_eq (length bytes) 0 ≡ true → bytes_of most words ≡ None
unfolding bytes_of
empty most words bytes on none =
    let no_words : length words ≡ 0 = omega (arith, on.count, eqb-true (length bytes) 0 none) in
    rw no_words refl
