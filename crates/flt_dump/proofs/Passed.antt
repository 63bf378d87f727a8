-- Lines of a dump that were passed, none of which is the line `image`.
use Rattle.std.proofs.Common.{◌≡◌, ℕ, ◌+◌, ◌<◌, ◌≤◌, List, [], ◌∷◌, ◌++◌, length, take, drop, get_or, Bool, true, false, Option, Some, None, refl, ap, sym, ◌∙◌, arith, suc, cond, ltb, lit<, codes, ◌==◌, append_assoc, length-drop, length-append}
use Rattle.std.specs.Prelude.{option_map}
use Rattle.std.specs.List.{position, position_or_len, slice_split, flat_map}
use Rattle.std.specs.Str.Lines.{strip_carriage_return}
use Rattle.std.proofs.lemmas.List.{append-nil, drop-drop, take_at, take_more, drop_all, length-take}
use Rattle.std.proofs.lemmas.List.Concat.{flat_map-append}
use Rattle.std.proofs.lemmas.Bool.{eqb-true, lt-ltb}
use Rattle.std.proofs.lemmas.Bool.Decides.{nat_tests}
use Rattle.std.proofs.lemmas.Slice.Eq.{bytes_eq-Decides}
use Rattle.std.proofs.lemmas.List.Splits.{slice_split_first}
use Rattle.std.proofs.lemmas.List.Quantifiers.{position-Some}
use Rattle.std.proofs.Math.Seq.{take-add}
use Rattle.flt_script.specs.Text.{lines_of}
use Rattle.flt_script.proofs.Lines.{lines_of-nil, lines_of_ended, lines_of_rest}
use Rattle.flt_script.proofs.Positions.{position_some}
use Rattle.flt_dump.specs.Dump.{is_image, image_at, first_lines}
use Rattle.flt_dump.specs.Lines.{IsImageLine}
use Rattle.flt_dump.specs.declared.lines.ImageLine.{ImageLine}

abbrev pub is_feed : ℕ → Bool
is_feed byte = byte == 10

abbrev pub ended : List ℕ → List ℕ
ended part = part ++ 10 ∷ []

-- The place after this many.
abbrev pub shifted : ℕ → Option ℕ → Option ℕ
shifted count place = option_map (λ k. count + k) place

-- This many lines take the bytes up to here.
pub record Passed (bytes : List ℕ) (from before : ℕ) : Type 0 where
  pub parts : List (List ℕ)
  pub count : length parts ≡ before
  pub within : from ≤ length bytes
  pub small : before ≤ from
  pub split : slice_split is_feed bytes ≡ parts ++ slice_split is_feed (drop from bytes)
  pub front : take from bytes ≡ flat_map ended parts
  pub lines : drop before (lines_of bytes) ≡ lines_of (drop from bytes)
  pub at : image_at bytes ≡ shifted before (image_at (drop from bytes))

found : (within : Bool) (place : ℕ) → within ≡ true → cond within (Some place) None ≡ Some place
found true place is = refl
found false place is = absurd (let no : false ≡ true = is in cc no)

first_passes : {X : Type 0} (p : X → Bool) (x : X) (xs : List X) → p x ≡ true → position p (x ∷ xs) ≡ Some 0
first_passes p x xs passes =
    let place : position_or_len p (x ∷ xs) ≡ 0 = rw passes refl in
    let within : position_or_len p (x ∷ xs) < length (x ∷ xs) = omega (arith, place) in
    found (ltb (position_or_len p (x ∷ xs)) (length (x ∷ xs))) (position_or_len p (x ∷ xs)) (lt-ltb _ _ within) ∙ ap Some place

not_first : (within : Bool) (place : ℕ) → cond within (Some (1 + place)) None ≡ shifted 1 (cond within (Some place) None)
not_first true place = refl
not_first false place = refl

lt_more : (a b : ℕ) → ltb (1 + a) (suc b) ≡ ltb a b
lt_more a b = grind (arith, nat_tests)

later_passes : {X : Type 0} (p : X → Bool) (x : X) (xs : List X) → p x ≡ false → position p (x ∷ xs) ≡ shifted 1 (position p xs)
later_passes p x xs fails = rw (fails, lt_more (position_or_len p xs) (length xs)) (not_first (ltb (position_or_len p xs) (length xs)) (position_or_len p xs))

shifted_twice : (m n : ℕ) (place : Option ℕ) → shifted m (shifted n place) ≡ shifted (m + n) place
shifted_twice m n None = refl
shifted_twice m n (Some k) = ap Some (omega arith)

module _ (bytes : List ℕ) (from before : ℕ) (passed : Passed bytes from before) where
  -- The bytes before this line are those of the lines before it.
  pub front_is : take from bytes ≡ first_lines before bytes
  unfolding first_lines
  front_is = passed.front ∙ ap (flat_map ended) (sym (rw passed.split (take_at passed.parts (slice_split is_feed (drop from bytes)) before passed.count)))

  module _ (end : ℕ) (feed : position is_feed (drop from bytes) ≡ Some end) where
    end_within : end < length (drop from bytes)
    end_within = (position-Some is_feed (drop from bytes) end 0 feed).0

    behind : drop (from + end + 1) bytes ≡ drop (end + 1) (drop from bytes)
    behind = ap (λ (n : ℕ). drop n bytes) (omega arith) ∙ sym (drop-drop (end + 1) from bytes)

    line_here : lines_of (drop from bytes) ≡ strip_carriage_return (take end (drop from bytes)) ∷ lines_of (drop (end + 1) (drop from bytes))
    line_here = lines_of_ended (drop from bytes) end feed

    part_here : slice_split is_feed (drop from bytes) ≡ take end (drop from bytes) ∷ slice_split is_feed (drop (end + 1) (drop from bytes))
    part_here =
        let place = position_some is_feed (drop from bytes) end feed in
        rw place.1 (slice_split_first is_feed (drop from bytes) 0 place.0)

    taken_here : take (end + 1) (drop from bytes) ≡ ended (take end (drop from bytes))
    taken_here =
        let within = end_within in
        let is : get_or (drop from bytes) end 0 ≡ 10 = eqb-true _ _ (position-Some is_feed (drop from bytes) end 0 feed).1 in
        take_more (drop from bytes) end 0 within ∙ ap (λ (b : ℕ). take end (drop from bytes) ++ b ∷ []) is

    lines_behind : drop (before + 1) (lines_of bytes) ≡ lines_of (drop (from + end + 1) bytes)
    lines_behind = sym (drop-drop 1 before (lines_of bytes)) ∙ ap (drop 1) (passed.lines ∙ line_here) ∙ ap lines_of (sym behind)

    -- One line more is passed.
    pub passes_line : is_image (strip_carriage_return (take end (drop from bytes))) ≡ false → Passed bytes (from + end + 1) (before + 1)
    passes_line other = record {
      parts = passed.parts ++ take end (drop from bytes) ∷ [];
      count = length-append passed.parts (take end (drop from bytes) ∷ []) ∙ ap (λ (n : ℕ). n + 1) passed.count;
      within = (let within = end_within in omega (arith, length-drop from bytes));
      small = (let small = passed.small in omega arith);
      split = passed.split ∙ ap (λ (parts : List (List ℕ)). passed.parts ++ parts) (part_here ∙ ap (λ (text : List ℕ). take end (drop from bytes) ∷ slice_split is_feed text) (sym behind))
          ∙ sym (append_assoc passed.parts (take end (drop from bytes) ∷ []) (slice_split is_feed (drop (from + end + 1) bytes)));
      front = ap (λ (n : ℕ). take n bytes) (omega arith) ∙ take-add from (end + 1) bytes ∙ ap (λ (l : List ℕ). l ++ take (end + 1) (drop from bytes)) passed.front
          ∙ ap (λ (l : List ℕ). flat_map ended passed.parts ++ l) taken_here ∙ sym (flat_map-append ended passed.parts (take end (drop from bytes) ∷ [])
          ∙ ap (λ (l : List ℕ). flat_map ended passed.parts ++ l) (append-nil (ended (take end (drop from bytes)))));
      lines = lines_behind;
      at = passed.at ∙ ap (shifted before) (ap (position is_image) line_here ∙ later_passes is_image (strip_carriage_return (take end (drop from bytes))) (lines_of (drop (end + 1) (drop from bytes))) other ∙ ap (λ (text : List ℕ). shifted 1 (image_at text)) (sym behind))
          ∙ shifted_twice before 1 (image_at (drop (from + end + 1) bytes));
    }

    -- This line is the one.
    pub is_line : is_image (strip_carriage_return (take end (drop from bytes))) ≡ true → IsImageLine bytes (record { before = before; from = from; behind = from + end + 1 })
    is_line is = record {
      at = passed.at ∙ ap (shifted before) (ap (position is_image) line_here ∙ first_passes is_image (strip_carriage_return (take end (drop from bytes))) (lines_of (drop (end + 1) (drop from bytes))) is) ∙ ap Some (omega arith);
      from = passed.within;
      small = passed.small;
      front = front_is;
      behind = (let within = end_within in omega (arith, length-drop from bytes));
      lines = sym lines_behind;
    }

  module _ (no_feed : position is_feed (drop from bytes) ≡ None) where
    -- The last line is the one.
    pub is_last_line : is_image (drop from bytes) ≡ true → IsImageLine bytes (record { before = before; from = from; behind = length bytes })
    is_last_line is =
        let same : drop from bytes ≡ codes "image" = (bytes_eq-Decides (drop from bytes) (codes "image")).0 is in
        let some : 0 < length (drop from bytes) = rw same (lit< tt) in
        let line : lines_of (drop from bytes) ≡ drop from bytes ∷ [] = lines_of_rest (drop from bytes) some no_feed ∙ ap (λ (l : List (List ℕ)). drop from bytes ∷ l) lines_of-nil in
        record {
          at = passed.at ∙ ap (shifted before) (ap (position is_image) line ∙ first_passes is_image (drop from bytes) [] is) ∙ ap Some (omega arith);
          from = passed.within;
          small = passed.small;
          front = front_is;
          behind = omega arith;
          lines = ap lines_of (drop_all (length bytes) bytes (omega arith)) ∙ lines_of-nil ∙ sym (sym (drop-drop 1 before (lines_of bytes)) ∙ ap (drop 1) (passed.lines ∙ line));
        }

    none_left : (text : List ℕ) → position is_feed text ≡ None → is_image text ≡ false → image_at text ≡ None
    none_left [] no_feed other = ap (position is_image) lines_of-nil
    none_left (byte ∷ text) no_feed other =
        ap (position is_image) (lines_of_rest (byte ∷ text) (omega arith) no_feed ∙ ap (λ (l : List (List ℕ)). (byte ∷ text) ∷ l) lines_of-nil) ∙ later_passes is_image (byte ∷ text) [] other

    -- There is none.
    pub no_line : is_image (drop from bytes) ≡ false → image_at bytes ≡ None
    no_line other = passed.at ∙ ap (shifted before) (none_left (drop from bytes) no_feed other)

-- No line is passed yet.
pub passed_none : (bytes : List ℕ) → Passed bytes 0 0
passed_none bytes = record {
  parts = [];
  count = refl;
  within = omega arith;
  small = omega arith;
  split = refl;
  front = refl;
  lines = refl;
  at = unshifted (image_at bytes);
}
  where
    unshifted : (place : Option ℕ) → place ≡ shifted 0 place
    unshifted None = refl
    unshifted (Some k) = ap Some (omega arith)

-- At most as many lines are before the line as a script may have bytes.
pub few_lines : (bytes : List ℕ) (image : ImageLine) → IsImageLine bytes image → length (take image.from bytes) ≤ 1048576 → image.before ≤ 1048576
few_lines bytes image is short = omega (arith, is.small, is.from, length-take image.from bytes, short)
