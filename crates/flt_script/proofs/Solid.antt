-- Words that are printed, and a line of them.
use Rattle.std.proofs.Common.{◌≡◌, ℕ, ◌<◌, ◌≤◌, List, [], ◌∷◌, ◌++◌, length, Bool, true, false, ◌&&◌, Some, refl, ap, ◌∙◌, arith}
use Rattle.std.specs.Prelude.{not, filter}
use Rattle.std.specs.Char.{digit_value}
use Rattle.std.specs.List.{list_all, slice_split, All}
use Rattle.std.specs.Option.{ok_or}
use Rattle.std.specs.Str.Parse.{AllDigits}
use Rattle.std.proofs.lemmas.Bool.{lt-ltb, le-ltb, and_parts, not-true}
use Rattle.std.proofs.lemmas.Bool.Decides.{nat_tests}
use Rattle.std.proofs.lemmas.List.Folds.{list_all-append}
use Rattle.std.proofs.lemmas.List.Splits.{slice_split_at, slice_split_none}
use Rattle.std.proofs.lemmas.List.Sums.{AllPass-from_list_all}
use Rattle.std.proofs.lemmas.Str.Parse.{digit_from_value}
use Rattle.flt_script.specs.declared.fault.LineCause.TheVariants.{Form}
use Rattle.flt_script.specs.declared.keyword.Keyword.{Keyword}
use Rattle.flt_script.specs.Line.{keyword_of, line_with, is_comment, by_words, line_of}
use Rattle.flt_script.specs.Numeral.{all_digits}
use Rattle.flt_script.specs.Text.{words_of, is_space_or_tab, is_word, is_plain, all_plain}
use Rattle.flt_script.proofs.Words.{a_word}

-- A byte of a word that is printed.
abbrev pub is_solid : ℕ → Bool
is_solid byte = is_plain byte && not (is_space_or_tab byte)

pub solid_is_plain : (word : List ℕ) → list_all is_solid word ≡ true → all_plain word ≡ true
solid_is_plain [] e = refl
solid_is_plain (byte ∷ word) e =
    let parts = and_parts (is_solid byte) (list_all is_solid word) e in
    let first = and_parts (is_plain byte) (not (is_space_or_tab byte)) parts.0 in
    rw (first.0, solid_is_plain word parts.1) refl

solid_is_whole : (word : List ℕ) → list_all is_solid word ≡ true → list_all (λ byte. not (is_space_or_tab byte)) word ≡ true
solid_is_whole [] e = refl
solid_is_whole (byte ∷ word) e =
    let parts = and_parts (is_solid byte) (list_all is_solid word) e in
    let first = and_parts (is_plain byte) (not (is_space_or_tab byte)) parts.0 in
    rw (first.1, solid_is_whole word parts.1) refl

pub none_blank : (word : List ℕ) → list_all is_solid word ≡ true → All (λ byte. is_space_or_tab byte ≡ false) word
none_blank word e = λ k d within. not-true _ (AllPass-from_list_all (λ (byte : ℕ). not (is_space_or_tab byte)) word (solid_is_whole word e) k d within)

-- It is one word.
pub words_of_one : (word : List ℕ) → list_all is_solid word ≡ true → 0 < length word → words_of word ≡ word ∷ []
unfolding words_of is_space_or_tab
words_of_one word solid some = ap (filter is_word) (slice_split_none is_space_or_tab word (none_blank word solid)) ∙ a_word word [] some

-- A digit is visible.
digit_is_solid : (byte : ℕ) → digit_value byte < 10 → is_solid byte ≡ true
unfolding is_space_or_tab
digit_is_solid byte small =
    let range = digit_from_value byte small in
    let low : 48 ≤ byte = range.0 in
    let high : byte ≤ 57 = range.1 in
    grind (arith, nat_tests)

pub digits_are_solid : (digits : List ℕ) → AllDigits 10 digits → list_all is_solid digits ≡ true
digits_are_solid [] all = refl
digits_are_solid (digit ∷ digits) all = rw (digit_is_solid digit all.0, digits_are_solid digits all.1) refl

pub digits_test : (digits : List ℕ) → AllDigits 10 digits → all_digits 10 digits ≡ true
digits_test [] all = refl
digits_test (digit ∷ digits) all = rw (lt-ltb (digit_value digit) 10 all.0, digits_test digits all.1) refl

-- A line of words.
module _ (word rest : List ℕ) (solid : list_all is_solid word ≡ true) (some : 0 < length word) where
  -- A word is before a space.
  pub words_of_first : words_of (word ++ 32 ∷ rest) ≡ word ∷ words_of rest
  unfolding words_of is_space_or_tab
  words_of_first =
      ap (filter is_word) (slice_split_at is_space_or_tab word 32 rest (none_blank word solid) refl) ∙ a_word word (slice_split is_space_or_tab rest) some

  pub plain_first : all_plain rest ≡ true → all_plain (word ++ 32 ∷ rest) ≡ true
  plain_first plain = list_all-append is_plain word (32 ∷ rest) ∙ rw (solid_is_plain word solid, plain) refl

  -- What a line says that begins with a keyword.
  pub by_keyword : length (word ++ 32 ∷ rest) ≤ 512 → all_plain rest ≡ true → (keyword : Keyword) → is_comment word ≡ false → keyword_of word ≡ Some keyword
      → line_of (word ++ 32 ∷ rest) ≡ ok_or (line_with keyword (words_of rest)) Form
  unfolding line_of by_words
  by_keyword fit plain keyword no_comment found = rw (le-ltb _ _ fit, plain_first plain, words_of_first, no_comment, found) refl
