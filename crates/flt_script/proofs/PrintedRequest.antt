-- A printed request is read again.
use Rattle.std.proofs.Common.{◌≡◌, ℕ, ◌+◌, ◌*◌, ◌/◌, ◌%◌, ◌<◌, ◌≤◌, List, [], ◌∷◌, ◌++◌, length, true, Some, Ok, refl, ap, ◌∙◌, arith, ltb, leb, length-append, append-nil, lit<}
use Rattle.std.specs.Prelude.{map, codes}
use Rattle.std.specs.Char.{digit_value}
use Rattle.std.specs.Fmt.{digit_glyph}
use Rattle.std.specs.List.{list_all}
use Rattle.std.proofs.lemmas.Bool.{lt-ltb, le-leb, ltb-true, and_parts}
use Rattle.std.proofs.lemmas.Bool.Decides.{nat_tests}
use Rattle.std.proofs.lemmas.List.{length-map}
use Rattle.std.proofs.lemmas.List.Folds.{list_all-append}
use Rattle.flt_script.specs.declared.keyword.Keyword.TheVariants as keyword
use Rattle.flt_script.specs.Said as line
use Rattle.flt_script.specs.declared.line.StepLine.TheVariants as written
use Rattle.flt_step.specs.declared.step.Step.TheVariants as step
use Rattle.flt_script.specs.Bytes.{tester_of, each, bytes_of}
use Rattle.flt_step.specs.Words.{letter_of, two_digits, spaced, step_text}
use Rattle.flt_script.specs.Laws.{are_bytes}
use Rattle.flt_script.specs.Line.{keyword_of, line_with, request_with, line_of}
use Rattle.flt_script.specs.Numeral.{numeral, hexadecimal}
use Rattle.flt_script.specs.Text.{words_of, is_space_or_tab, is_plain, all_plain}
use Rattle.flt_script.proofs.Solid.{is_solid, solid_is_plain, words_of_one, words_of_first, by_keyword}

-- A hexadecimal digit.
pub glyph_is_solid : (d : ℕ) → d < 16 → is_solid (digit_glyph true d) ≡ true
unfolding is_space_or_tab
glyph_is_solid d small = grind (arith, nat_tests)

pub glyph_value : (d : ℕ) → d < 16 → digit_value (digit_glyph true d) ≡ d
glyph_value d small = grind (arith, nat_tests)

-- A byte in two digits.
module _ (byte : ℕ) (small : byte < 256) where
  pub digits_are_solid : list_all is_solid (two_digits byte) ≡ true
  digits_are_solid = rw (glyph_is_solid (byte / 16) (omega arith), glyph_is_solid (byte % 16) (omega arith)) refl

  byte_is_read : hexadecimal 2 (two_digits byte) ≡ Some byte
  unfolding hexadecimal numeral
  byte_is_read =
      let high = glyph_value (byte / 16) (omega arith) in
      let low = glyph_value (byte % 16) (omega arith) in
      let value : (0 * 16 + byte / 16) * 16 + byte % 16 ≡ byte = omega arith in
      rw (high, low, lt-ltb (byte / 16) 16 (omega arith), lt-ltb (byte % 16) 16 (omega arith)) (ap (λ (n : ℕ). Some n) value)

-- The words of a word and bytes after it.
pub words_of-spaced : (word bytes : List ℕ) → list_all is_solid word ≡ true → 0 < length word → are_bytes bytes ≡ true
    → words_of (word ++ spaced bytes) ≡ word ∷ map two_digits bytes
words_of-spaced word [] solid some small = rw append-nil (words_of_one word solid some)
words_of-spaced word (byte ∷ bytes) solid some small =
    let parts = and_parts (ltb byte 256) (are_bytes bytes) small in
    let first = digits_are_solid byte (ltb-true byte 256 parts.0) in
    words_of_first word (two_digits byte ++ spaced bytes) solid some
    ∙ ap (λ (words : List (List ℕ)). word ∷ words) (words_of-spaced (two_digits byte) bytes first (lit< tt) parts.1)

pub plain-spaced : (bytes : List ℕ) → are_bytes bytes ≡ true → all_plain (spaced bytes) ≡ true
plain-spaced [] small = refl
plain-spaced (byte ∷ bytes) small =
    let parts = and_parts (ltb byte 256) (are_bytes bytes) small in
    let first = solid_is_plain (two_digits byte) (digits_are_solid byte (ltb-true byte 256 parts.0)) in
    list_all-append is_plain (32 ∷ two_digits byte) (spaced bytes) ∙ rw (first, plain-spaced bytes parts.1) refl

pub length-spaced : (bytes : List ℕ) → length (spaced bytes) ≡ 3 * length bytes
length-spaced [] = refl
length-spaced (byte ∷ bytes) = rw (length-append (32 ∷ two_digits byte) (spaced bytes)) (omega (arith, length-spaced bytes))

-- The bytes are read again.
pub each-two_digits : (bytes : List ℕ) → are_bytes bytes ≡ true → each (hexadecimal 2) (map two_digits bytes) ≡ Some bytes
each-two_digits [] small = refl
each-two_digits (byte ∷ bytes) small =
    let parts = and_parts (ltb byte 256) (are_bytes bytes) small in
    rw (byte_is_read byte (ltb-true byte 256 parts.0), each-two_digits bytes parts.1) refl

-- A tester's letter.
letter_is_solid : (tester : ℕ) → is_solid (letter_of tester) ≡ true
unfolding is_space_or_tab
letter_is_solid tester = grind (arith, nat_tests)

tester_is_read : (tester : ℕ) → tester ≤ 3 → tester_of (letter_of tester ∷ []) ≡ Some tester
tester_is_read tester last = grind (arith, nat_tests)

pub request_is_read : (tester : ℕ) (bytes : List ℕ) → tester ≤ 3 → 0 < length bytes → length bytes ≤ 16 → are_bytes bytes ≡ true
    → line_of (step_text (step.Request tester (record { items = bytes }))) ≡ Ok (line.Step (written.Request tester (record { items = bytes })))
unfolding line_with request_with bytes_of keyword_of is_space_or_tab
request_is_read tester [] last some most small = absurd (omega arith)
request_is_read tester (byte ∷ bytes) last some most small =
    let letter : List ℕ = letter_of tester ∷ [] in
    let solid : list_all is_solid letter ≡ true = rw (letter_is_solid tester) refl in
    let all : List ℕ = byte ∷ bytes in
    let fit : length (codes "t" ++ 32 ∷ (letter ++ spaced all)) ≤ 512 = omega (arith, length-spaced all) in
    let plain : all_plain (letter ++ spaced all) ≡ true = list_all-append is_plain letter (spaced all) ∙ rw (solid_is_plain letter solid, plain-spaced all small) refl in
    let words = words_of-spaced letter all solid (lit< tt) small in
    let few : leb (length (map two_digits all)) 16 ≡ true = rw length-map (le-leb (length all) 16 most) in
    let one : leb 1 (length (map two_digits all)) ≡ true = rw length-map (le-leb 1 (length all) some) in
    by_keyword (codes "t") (letter ++ spaced all) refl (lit< tt) fit plain keyword.Request refl refl
    ∙ rw (words, tester_is_read tester last, one, few, each-two_digits all small) refl
