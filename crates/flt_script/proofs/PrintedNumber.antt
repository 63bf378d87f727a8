-- Printed numbers are read again, alone and in a line.
use Rattle.std.proofs.Common.{◌≡◌, ℕ, ◌<◌, ◌≤◌, ◌^◌, List, [], ◌∷◌, ◌++◌, length, true, false, Some, refl, ◌∙◌, arith, length-append, lit<}
use Rattle.std.specs.Fmt.{decimal}
use Rattle.std.specs.List.{list_all}
use Rattle.std.specs.Option.{ok_or}
use Rattle.std.specs.Str.Parse.{AllDigits}
use Rattle.std.proofs.lemmas.Bool.{lt-ltb, le-leb}
use Rattle.std.proofs.lemmas.Fmt.{decimal_is_IsNumeral, length-decimal-le}
use Rattle.flt_script.specs.declared.fault.LineCause.TheVariants.{Form}
use Rattle.flt_script.specs.declared.keyword.Keyword.{Keyword}
use Rattle.flt_script.specs.Line.{keyword_of, line_with, is_comment, line_of}
use Rattle.flt_script.specs.Numeral.{numeral, number}
use Rattle.flt_step.specs.Words.{with_number}
use Rattle.flt_script.specs.Text.{words_of, all_plain}
use Rattle.flt_script.proofs.Solid.{is_solid, solid_is_plain, digits_are_solid, digits_test, words_of_one, words_of_first, plain_first, by_keyword}

-- A number as it is printed.
module _ (n : ℕ) (small : n < 10 ^ 10) where
  fits : n < 2 ^ 64
  fits = omega arith

  digits_of_n : AllDigits 10 (decimal n)
  digits_of_n = (decimal_is_IsNumeral n fits).0.1

  pub solid_digits : list_all is_solid (decimal n) ≡ true
  solid_digits = digits_are_solid (decimal n) digits_of_n

  pub some_digit : 0 < length (decimal n)
  some_digit = (decimal_is_IsNumeral n fits).0.0

  pub few_digits : length (decimal n) ≤ 10
  few_digits = length-decimal-le 10 n (lit< tt) small fits

  -- A printed number is read again.
  pub number-decimal : number (decimal n) ≡ Some n
  unfolding number numeral
  number-decimal = rw (
    lt-ltb 0 (length (decimal n)) some_digit,
    digits_test (decimal n) digits_of_n,
    (decimal_is_IsNumeral n fits).1,
    le-leb (length (decimal n)) 10 few_digits,
  ) refl

  -- It is one word, of visible characters.
  pub words_of-decimal : words_of (decimal n) ≡ decimal n ∷ []
  words_of-decimal = words_of_one (decimal n) solid_digits some_digit

  pub plain_digits : all_plain (decimal n) ≡ true
  plain_digits = solid_is_plain (decimal n) solid_digits

  -- So it is before a space.
  pub words_of_number : (rest : List ℕ) → words_of (decimal n ++ 32 ∷ rest) ≡ decimal n ∷ words_of rest
  words_of_number rest = words_of_first (decimal n) rest solid_digits some_digit

  pub plain_number : (rest : List ℕ) → all_plain rest ≡ true → all_plain (decimal n ++ 32 ∷ rest) ≡ true
  plain_number rest plain = plain_first (decimal n) rest solid_digits some_digit plain

-- A keyword.
module _ (word : List ℕ) (solid : list_all is_solid word ≡ true) (some : 0 < length word) (short : length word ≤ 10) (n : ℕ) (small : n < 10 ^ 10) where
  -- One number after it.
  pub with_one : (keyword : Keyword) → is_comment word ≡ false → keyword_of word ≡ Some keyword
      → line_of (with_number word n) ≡ ok_or (line_with keyword (decimal n ∷ [])) Form
  with_one keyword no_comment found =
      let fit : length (with_number word n) ≤ 512 = rw length-append (omega (arith, few_digits n small, short)) in
      by_keyword word (decimal n) solid some fit (plain_digits n small) keyword no_comment found ∙ rw (words_of-decimal n small) refl

  -- A number and more words.
  pub with_more : (rest : List ℕ) → length rest ≤ 100 → all_plain rest ≡ true
      → (keyword : Keyword) → is_comment word ≡ false → keyword_of word ≡ Some keyword
      → line_of (word ++ 32 ∷ (decimal n ++ 32 ∷ rest)) ≡ ok_or (line_with keyword (decimal n ∷ words_of rest)) Form
  with_more rest few plain keyword no_comment found =
      let fit : length (word ++ 32 ∷ (decimal n ++ 32 ∷ rest)) ≤ 512 = rw (length-append, length-append) (omega (arith, few_digits n small, short, few)) in
      by_keyword word (decimal n ++ 32 ∷ rest) solid some fit (plain_number n small rest plain) keyword no_comment found
      ∙ rw (words_of_number n small rest) refl
