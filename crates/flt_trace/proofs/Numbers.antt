-- Numbers without a leading zero, and what is before a space.
use Rattle.std.proofs.Common.{◌≡◌, ◌≢◌, ℕ, zero, suc, ◌&&◌, ◌+◌, ◌-◌, ◌<◌, ◌≤◌, ◌^◌, List, [], ◌∷◌, ◌++◌, true, false, Bool, cond, length, Some, None, refl, sym, ap, subst, ◌∙◌, arith, take, drop, get_or}
use Rattle.std.specs.Prelude.{not, position, nat_lt, nat_le, if◌then◌else◌}
use Rattle.std.specs.List.{prefix_len}
use Rattle.std.specs.Fmt.{decimal}
use Rattle.std.specs.Char.{digit_value}
use Rattle.std.specs.Str.Parse.{AllDigits, digits_value}
use Rattle.std.proofs.lemmas.Bool.{and_parts, eqb-true, leb-true, lt-ltb, ltb-true, ne_eqb}
use Rattle.std.proofs.lemmas.Fmt.{decimal-digits_value, decimal_digit, decimal_is_IsNumeral, first_decimal}
use Rattle.std.proofs.lemmas.Str.Parse.{digit_from_value, numerals_by_value, tells_digits}
use Rattle.std.proofs.lemmas.List.{length-append, length-drop, take_all}
use Rattle.flt_script.specs.Numeral.{all_digits, number, numeral}
use Rattle.flt_trace.specs.Call.{is_space}
use Rattle.flt_script.proofs.PrintedNumber.{number-decimal}

-- A printed number is read again.
pub is_read : (word : List ℕ) (n : ℕ) → n < 2 ^ 32 → word ≡ decimal n → number word ≡ Some n
is_read word n small is = ap number is ∙ number-decimal n (omega (arith, small))

pub spells_none : (word : List ℕ) → None ≡ number word → (n : ℕ) → n < 2 ^ 32 → word ≢ decimal n
spells_none word none n small is = let no_number : None ≡ Some n = none ∙ is_read word n small is in absurd (cc no_number)

pub spells_this : (word : List ℕ) (value : ℕ) → Some value ≡ number word → (n : ℕ) → n < 2 ^ 32 → word ≡ decimal n → value ≡ n
spells_this word value spelled n small is = let same : Some value ≡ Some n = spelled ∙ is_read word n small is in cc same

-- The first space follows a number.
digits_before : (digits rest : List ℕ) → AllDigits 10 digits → prefix_len (λ byte. not (is_space byte)) (digits ++ 32 ∷ rest) ≡ length digits
digits_before [] rest all = refl
digits_before (digit ∷ digits) rest all =
    let one : 1 + length digits ≡ suc (length digits) = omega arith in
    let low : 48 ≤ digit = (digit_from_value digit all.0).0 in
    let other : is_space digit ≡ false = ne_eqb digit 32 (λ is. omega (arith, is, low)) in
    ap (λ (b : Bool). cond (not b) (1 + prefix_len (λ byte. not (is_space byte)) (digits ++ 32 ∷ rest)) 0) other
    ∙ ap (λ (n : ℕ). 1 + n) (digits_before digits rest all.1) ∙ one

pub space_behind : (n : ℕ) (rest : List ℕ) → n < 2 ^ 32 → position is_space (decimal n ++ 32 ∷ rest) ≡ Some (length (decimal n))
space_behind n rest small =
    let here = digits_before (decimal n) rest (decimal_is_IsNumeral n (omega (arith, small))).0.1 in
    let within : length (decimal n) < length (decimal n ++ 32 ∷ rest) = omega (arith, length-append (decimal n) (32 ∷ rest)) in
    rw (here, lt-ltb (length (decimal n)) (length (decimal n ++ 32 ∷ rest)) within) refl

pub drop_behind : (front : List ℕ) (byte : ℕ) (rest : List ℕ) → drop (length front + 1) (front ++ byte ∷ rest) ≡ rest
drop_behind [] byte rest = refl
drop_behind (first ∷ front) byte rest =
    let one : suc (length front) + 1 ≡ suc (length front + 1) = omega arith in
    ap (λ (n : ℕ). drop n (first ∷ (front ++ byte ∷ rest))) one ∙ drop_behind front byte rest

-- A text is what is before and after its first space.
split_by : (byte : ℕ) (text : List ℕ) (space : Bool) → is_space byte ≡ space
    → (prefix_len (λ b. not (is_space b)) text < length text → text ≡ take (prefix_len (λ b. not (is_space b)) text) text ++ 32 ∷ drop (prefix_len (λ b. not (is_space b)) text + 1) text)
    → cond (not space) (1 + prefix_len (λ b. not (is_space b)) text) 0 < suc (length text)
    → byte ∷ text ≡ take (cond (not space) (1 + prefix_len (λ b. not (is_space b)) text) 0) (byte ∷ text) ++ 32 ∷ drop (cond (not space) (1 + prefix_len (λ b. not (is_space b)) text) 0 + 1) (byte ∷ text)
split_by byte text true is rest within = ap (λ (b : ℕ). b ∷ text) (eqb-true byte 32 is)
split_by byte text false is rest within =
    let count = prefix_len (λ b. not (is_space b)) text in
    let one : suc count ≡ 1 + count = omega arith in
    let two : suc (count + 1) ≡ 1 + count + 1 = omega arith in
    ap (λ (others : List ℕ). byte ∷ others) (rest (omega (arith, within)))
    ∙ (λ i. take (one i) (byte ∷ text) ++ 32 ∷ drop (two i) (byte ∷ text))

split_len : (text : List ℕ) → prefix_len (λ b. not (is_space b)) text < length text
    → text ≡ take (prefix_len (λ b. not (is_space b)) text) text ++ 32 ∷ drop (prefix_len (λ b. not (is_space b)) text + 1) text
split_len [] within = absurd (omega (arith, within))
split_len (byte ∷ text) within = split_by byte text (is_space byte) refl (split_len text) within

found_at : (count size at : ℕ) (among : Bool) → nat_lt count size ≡ among → Some at ≡ cond among (Some count) None → (at ≡ count) × (count < size)
found_at count size at true is found = (cc found, ltb-true count size is)
found_at count size at false is found = absurd (cc found)

pub split_at : (text : List ℕ) (at : ℕ) → Some at ≡ position is_space text → text ≡ take at text ++ 32 ∷ drop (at + 1) text
split_at text at found =
    let count = prefix_len (λ b. not (is_space b)) text in
    let is = found_at count (length text) at (nat_lt count (length text)) refl found in
    subst (λ (n : ℕ). text ≡ take n text ++ 32 ∷ drop (n + 1) text) (sym is.0) (split_len text is.1)

-- What a word that spells a number is.
all_are : (word : List ℕ) → all_digits 10 word ≡ true → AllDigits 10 word
all_are [] is = tt
all_are (digit ∷ word) is = let parts = and_parts (nat_lt (digit_value digit) 10) (all_digits 10 word) is in (ltb-true (digit_value digit) 10 parts.0, all_are word parts.1)

of_digits : (word : List ℕ) (n : ℕ) (digits : Bool) → all_digits 10 word ≡ digits → (if digits then Some (digits_value 10 word) else None) ≡ Some n → AllDigits 10 word × (digits_value 10 word ≡ n)
of_digits word n true is found = (all_are word is, cc found)
of_digits word n false is found = absurd (cc found)

in_length : (word : List ℕ) (n : ℕ) (some few : Bool) → nat_le 1 (length word) ≡ some → (if some && few then numeral 10 word else None) ≡ Some n → (0 < length word) × (numeral 10 word ≡ Some n)
in_length word n true true is found = (leb-true 1 (length word) is, found)
in_length word n true false is found = absurd (cc found)
in_length word n false true is found = absurd (cc found)
in_length word n false false is found = absurd (cc found)

spelled : (word : List ℕ) (n : ℕ) → number word ≡ Some n → (0 < length word) × (AllDigits 10 word × (digits_value 10 word ≡ n))
unfolding number numeral
spelled word n found =
    let some = in_length word n (nat_le 1 (length word)) (nat_le (length word) 10) refl found in
    (some.0, of_digits word n (all_digits 10 word) refl some.1)

lone : (count : ℕ) → 0 < count → (1 < count → ⊥) → count ≡ 1
lone zero some never = absurd (omega (arith, some))
lone (suc zero) some never = refl
lone (suc (suc count)) some never = absurd (never (omega arith))

-- Where no zero leads it, it is its number as printed.
pub no_zero_leads : (word : List ℕ) (n : ℕ) → number word ≡ Some n → n < 2 ^ 32 → (1 < length word → get_or word 0 0 ≡ 48 → ⊥) → word ≡ decimal n
no_zero_leads word n found small lead =
    let is = spelled word n found in
    let one : get_or word 0 0 ≡ 48 → length word ≡ 1 = λ first. lone (length word) is.0 (λ long. lead long first) in
    sym (decimal-digits_value (numerals_by_value _ tells_digits) word is.1.0 is.0 one (omega (arith, is.1.1, small))) ∙ ap decimal is.1.1

-- No number is printed with one.
pub zero_leads : (word : List ℕ) (n : ℕ) → n < 2 ^ 32 → 1 < length word → get_or word 0 0 ≡ 48 → word ≢ decimal n
zero_leads word zero small long first is = absurd (omega (arith, long, ap length (is ∙ decimal_digit 0 (omega arith))))
zero_leads word (suc n) small long first is =
    let above = first_decimal (suc n) (omega arith) (omega (arith, small)) in
    let same : get_or (decimal (suc n)) 0 0 ≡ 48 = ap (λ (w : List ℕ). get_or w 0 0) (sym is) ∙ first in
    absurd (omega (arith, above, same))

pub all_behind : (text : List ℕ) (at : ℕ) → take (length text - at) (drop at text) ≡ drop at text
all_behind text at = take_all (length text - at) (drop at text) (omega (arith, length-drop at text))
