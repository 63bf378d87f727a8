-- The lines of a text, one after the other.
use Rattle.std.proofs.Common.{◌≡◌, ℕ, ◌+◌, ◌-◌, ◌<◌, ◌≤◌, List, [], ◌∷◌, length, take, drop, get_or, Bool, true, false, Some, None, refl, ap, sym, ◌∙◌, arith, ◌==◌, if◌then◌else◌}
use Rattle.std.proofs.lemmas.Bool.Decides.{nat_tests}
use Rattle.std.specs.Prelude.{not}
use Rattle.std.specs.List.{position, position_or_len, list_all, slice_split, All}
use Rattle.std.specs.Str.Lines.{lines_of_parts, strip_carriage_return}
use Rattle.std.proofs.lemmas.List.Splits.{slice_split_first, slice_split_none, length-slice_split}
use Rattle.std.proofs.lemmas.List.Sums.{fails_before_first, count_by-le-length, position_or_len_is, AllPass-from_list_all, list_all-from_AllPass}
use Rattle.std.proofs.lemmas.List.{get_or-take, length-take-le}
use Rattle.std.proofs.lemmas.Bool.{and_parts, not-false}
use Rattle.flt_script.specs.Text.{lines_of, is_visible, all_plain}
use Rattle.flt_script.proofs.Positions.{position_some, position_none}

-- The parts before the last one end at a line feed.
more_parts : (part : List ℕ) (parts : List (List ℕ)) → 0 < length parts → lines_of_parts (part ∷ parts) ≡ strip_carriage_return part ∷ lines_of_parts parts
more_parts part [] some = absurd (omega arith)
more_parts part (next ∷ parts) some = refl

pub lines_of-nil : lines_of [] ≡ []
unfolding lines_of
lines_of-nil = refl

-- A line that ends at the first line feed.
lines_of_at : (text : List ℕ) (end : ℕ) → end ≡ position_or_len (λ byte. byte == 10) text → end < length text
    → lines_of text ≡ strip_carriage_return (take end text) ∷ lines_of (drop (end + 1) text)
unfolding lines_of
lines_of_at text end place within =
    let behind = slice_split (λ byte. byte == 10) (drop (end + 1) text) in
    let parts : slice_split (λ byte. byte == 10) text ≡ take end text ∷ behind = rw place (slice_split_first (λ (byte : ℕ). byte == 10) text 0 (rw (← place) within)) in
    ap lines_of_parts parts ∙ more_parts (take end text) behind (omega (arith, length-slice_split (λ (byte : ℕ). byte == 10) (drop (end + 1) text)))

pub lines_of_ended : (text : List ℕ) (end : ℕ) → position (λ byte. byte == 10) text ≡ Some end
    → lines_of text ≡ strip_carriage_return (take end text) ∷ lines_of (drop (end + 1) text)
lines_of_ended text end e =
    let place = position_some (λ (byte : ℕ). byte == 10) text end e in
    lines_of_at text end place.1 (omega (arith, place.0, place.1))

visible_is_no_feed : (byte : ℕ) → is_visible byte ≡ true → (byte == 10) ≡ false
visible_is_no_feed byte visible = grind (arith, nat_tests)

visible_is_no_return : (byte : ℕ) → is_visible byte ≡ true → (byte == 13) ≡ false
visible_is_no_return byte visible = grind (arith, nat_tests)

visible_is_plain : (line : List ℕ) → list_all is_visible line ≡ true → all_plain line ≡ true
visible_is_plain [] all = refl
visible_is_plain (byte ∷ line) all =
    let parts = and_parts (is_visible byte) (list_all is_visible line) all in
    rw (parts.0, visible_is_plain line parts.1) refl

-- A line of visible bytes alone is plain.
pub visible_all : (line : List ℕ) → position (λ byte. not (is_visible byte)) line ≡ None → all_plain line ≡ true
visible_all line none =
    let past = position_none (λ (byte : ℕ). not (is_visible byte)) line none in
    let each : (k d : ℕ) → k < length line → is_visible (get_or line k d) ≡ true = λ k d within. not-false _ (fails_before_first (λ (byte : ℕ). not (is_visible byte)) line k d (omega (arith, past, within))) in
    visible_is_plain line (list_all-from_AllPass is_visible line each)

-- Nothing is stripped of what is visible.
unstripped : (line : List ℕ) → list_all is_visible line ≡ true → strip_carriage_return line ≡ line
unstripped [] all = refl
unstripped (byte ∷ line) all =
    let last = AllPass-from_list_all is_visible (byte ∷ line) all (length (byte ∷ line) - 1) 0 (omega arith) in
    rw (visible_is_no_return _ last) refl

module _ (text : List ℕ) (end : ℕ) (e : position (λ byte. not (is_visible byte)) text ≡ Some end) where
  place : (position_or_len (λ byte. not (is_visible byte)) text < length text) × (end ≡ position_or_len (λ byte. not (is_visible byte)) text)
  place = position_some (λ (byte : ℕ). not (is_visible byte)) text end e

  visible_before : (k d : ℕ) → k < end → is_visible (get_or text k d) ≡ true
  visible_before k d before = not-false _ (fails_before_first (λ (byte : ℕ). not (is_visible byte)) text k d (omega (arith, place.1)))

  visible_line : list_all is_visible (take end text) ≡ true
  visible_line = list_all-from_AllPass is_visible (take end text)
      (λ k d within. let before : k < end = omega (arith, length-take-le end text (omega (arith, place.0, place.1))) in rw get_or-take (visible_before k d before))

  pub plain_line : all_plain (take end text) ≡ true
  plain_line = visible_is_plain (take end text) visible_line

  pub lines_of_visible : get_or text end 0 ≡ 10 → lines_of text ≡ take end text ∷ lines_of (drop (end + 1) text)
  lines_of_visible feed =
      let within : end < length text = omega (arith, place.0, place.1) in
      let first = position_or_len_is (λ (byte : ℕ). byte == 10) text end 0 (omega arith)
      (λ k before. visible_is_no_feed _ (visible_before k 0 before)) (λ _. rw feed refl) in
      lines_of_at text end (sym first) within ∙ ap (λ (line : List ℕ). line ∷ lines_of (drop (end + 1) text)) (unstripped (take end text) visible_line)

is_some : (n : ℕ) → 0 < n → (n == 0) ≡ false
is_some n some = grind (arith, nat_tests)

one_part : (text : List ℕ) → 0 < length text → (if length text == 0 then [] else text ∷ []) ≡ text ∷ []
one_part text some = rw (is_some (length text) some) refl

pub lines_of_rest : (text : List ℕ) → 0 < length text → position (λ byte. byte == 10) text ≡ None → lines_of text ≡ text ∷ lines_of []
unfolding lines_of
lines_of_rest text some e =
    let past = position_none (λ (byte : ℕ). byte == 10) text e in
    let none : All (λ byte. (byte == 10) ≡ false) text = λ k d within. fails_before_first (λ (byte : ℕ). byte == 10) text k d (omega arith) in
    ap lines_of_parts (slice_split_none (λ (byte : ℕ). byte == 10) text none) ∙ one_part text some

few_last : (empty : Bool) (part : List ℕ) → length (if empty then [] else part ∷ []) ≤ 1
few_last true part = omega arith
few_last false part = omega arith

few_parts : (parts : List (List ℕ)) → length (lines_of_parts parts) ≤ length parts
few_parts [] = omega arith
few_parts (part ∷ []) = few_last (length part == 0) part
few_parts (part ∷ next ∷ parts) = omega (arith, few_parts (next ∷ parts))

pub length-lines_of : (text : List ℕ) → length (lines_of text) ≤ length text + 1
unfolding lines_of
length-lines_of text =
    let parts = slice_split (λ (byte : ℕ). byte == 10) text in
    omega (arith, few_parts parts, length-slice_split (λ (byte : ℕ). byte == 10) text, count_by-le-length (λ (byte : ℕ). byte == 10) text)
