-- The words of a line, one after the other.
use Rattle.std.proofs.Common.{◌≡◌, ℕ, zero, suc, ◌+◌, ◌<◌, List, [], ◌∷◌, length, take, drop, get_or, Bool, true, false, Some, None, refl, ap, sym, ◌∙◌, arith, cond, add-zero, add-one, drop-cons, length-drop}
use Rattle.std.specs.Prelude.{not, filter}
use Rattle.std.specs.List.{position, position_or_len, slice_split, All}
use Rattle.std.proofs.lemmas.Bool.{lt-ltb, not-true}
use Rattle.std.proofs.Math.ListN.{drop_of_length-le}
use Rattle.std.proofs.lemmas.List.{get_or-drop, length-take-le}
use Rattle.std.proofs.lemmas.List.Splits.{slice_split_first, slice_split_none, slice_split-cons_yes}
use Rattle.std.proofs.lemmas.List.Sums.{fails_before_first, passes_at_first}
use Rattle.flt_script.specs.Text.{words_of, is_space_or_tab, is_word}
use Rattle.flt_script.proofs.Positions.{position_some, position_none}

pub words_of-nil : words_of [] ≡ []
unfolding words_of
words_of-nil = refl

-- A blank at the beginning.
words_of_blank : (byte : ℕ) (line : List ℕ) → is_space_or_tab byte ≡ true → words_of (byte ∷ line) ≡ words_of line
unfolding words_of
words_of_blank byte line blank = ap (filter is_word) (slice_split-cons_yes is_space_or_tab byte line blank)

-- The blanks before the first word.
abbrev blanks : List ℕ → ℕ
blanks line = position_or_len (λ byte. not (is_space_or_tab byte)) line

skip_step : (byte : ℕ) (line : List ℕ) (blank : Bool) → is_space_or_tab byte ≡ blank → words_of line ≡ words_of (drop (blanks line) line)
    → words_of (byte ∷ line) ≡ words_of (drop (cond (not (not blank)) (1 + blanks line) 0) (byte ∷ line))
skip_step byte line true e rest = words_of_blank byte line e ∙ rest ∙ (let one : 1 + blanks line ≡ suc (blanks line) = omega arith in rw one refl)
skip_step byte line false e rest = refl

skip_blanks : (line : List ℕ) → words_of line ≡ words_of (drop (blanks line) line)
skip_blanks [] = refl
skip_blanks (byte ∷ line) = skip_step byte line (is_space_or_tab byte) refl (skip_blanks line)

pub words_of_none : (line : List ℕ) → position (λ byte. not (is_space_or_tab byte)) line ≡ None → words_of line ≡ []
words_of_none line e =
    skip_blanks line ∙ ap words_of (drop_of_length-le line (position_none (λ (byte : ℕ). not (is_space_or_tab byte)) line e)) ∙ words_of-nil

-- A line from its first word on.
pub record BeginsWithWord (line from : List ℕ) : Type 0 where
  pub some : 0 < length from
  pub first : is_space_or_tab (get_or from 0 0) ≡ false
  pub same : words_of line ≡ words_of from

pub from_word : (line : List ℕ) (start : ℕ) → position (λ byte. not (is_space_or_tab byte)) line ≡ Some start → BeginsWithWord line (drop start line)
from_word line start e =
    let place = position_some (λ (byte : ℕ). not (is_space_or_tab byte)) line start e in
    let first : not (is_space_or_tab (get_or line start 0)) ≡ true = rw place.1 (passes_at_first (λ (byte : ℕ). not (is_space_or_tab byte)) line 0 place.0) in
    record {
      some = rw length-drop (omega (arith, place.0, place.1));
      first = rw (get_or-drop, add-zero) (not-true (is_space_or_tab (get_or line start 0)) first);
      same = rw place.1 (skip_blanks line);
    }

pub a_word : (word : List ℕ) (parts : List (List ℕ)) → 0 < length word → filter is_word (word ∷ parts) ≡ word ∷ filter is_word parts
a_word word parts some = rw (lt-ltb 0 (length word) some) refl

module _ (from : List ℕ) (some : 0 < length from) (first : is_space_or_tab (get_or from 0 0) ≡ false) where
  not_at_first : (end : ℕ) → end ≡ position_or_len is_space_or_tab from → end < length from → 0 < end
  not_at_first zero e within =
      let blank = passes_at_first is_space_or_tab from 0 (rw (← e) within) in
      let at_first = rw (← e) at blank in
      absurd cc
  not_at_first (suc end) e within = omega arith

  pub word_before : (end : ℕ) → position is_space_or_tab from ≡ Some end → words_of from ≡ take end from ∷ words_of (drop end from)
  unfolding words_of
  word_before end e =
      let place = position_some is_space_or_tab from end e in
      let within : end < length from = omega (arith, place.0, place.1) in
      let cut : slice_split is_space_or_tab from ≡ take end from ∷ slice_split is_space_or_tab (drop (end + 1) from) = rw place.1 (slice_split_first is_space_or_tab from 0 place.0) in
      let word : 0 < length (take end from) = rw (length-take-le end from (omega (arith, within))) (not_at_first end place.1 within) in
      let blank : is_space_or_tab (get_or from end 0) ≡ true = rw place.1 (passes_at_first is_space_or_tab from 0 place.0) in
      let behind : drop end from ≡ get_or from end 0 ∷ drop (end + 1) from = rw add-one (drop-cons from end 0 within) in
      let others : words_of (drop end from) ≡ words_of (drop (end + 1) from) = ap words_of behind ∙ words_of_blank (get_or from end 0) (drop (end + 1) from) blank in
      ap (filter is_word) cut ∙ a_word (take end from) (slice_split is_space_or_tab (drop (end + 1) from)) word ∙ ap (λ (words : List (List ℕ)). take end from ∷ words) (sym others)

  pub word_alone : position is_space_or_tab from ≡ None → words_of from ≡ from ∷ words_of []
  unfolding words_of
  word_alone e =
      let past = position_none is_space_or_tab from e in
      let none : All (λ byte. is_space_or_tab byte ≡ false) from = λ k d within. fails_before_first is_space_or_tab from k d (omega arith) in
      ap (filter is_word) (slice_split_none is_space_or_tab from none) ∙ a_word from [] some
