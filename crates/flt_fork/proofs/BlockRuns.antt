-- A block whose lanes were split off, ran and were joined: on each lock.
use Rattle.std.proofs.Common.{◌≡◌, ℕ, suc, ◌<◌, ◌≤◌, ◌+◌, List, [], ◌∷◌, ◌++◌, All, length, map, get_or, arith, refl, sym, ap, subst, ◌∙◌}
use Rattle.std.proofs.lemmas.List.{length-map}
use Rattle.std.proofs.lemmas.List.Elements.{All-nil, All-cons}
use Rattle.flt_turn.specs.Seats.{Seated}
use Rattle.flt_fork.specs.Mixing.{Call, Block, Rise, calls_in_block}
use Rattle.flt_fork.specs.Making.{LanesMake}
use Rattle.flt_fork.proofs.Rising.{rise_block, rise_none}
use Rattle.flt_fork.specs.Lived.{IsMain}
use Rattle.flt_fork.specs.Runs.{RunsBy, HasRunBlock}
use Rattle.flt_fork.specs.Seats.{IsSplitSeat, IsSplitOff, AreJoined}
use Rattle.flt_fork.specs.Passed.{AreSplit}
use Rattle.flt_fork.proofs.Blocks.{IsLane, AreLanes, IsGivenFor, lane_fact, block_part}

-- A lane on one lock: its seat before and after, and its answers.
pub record Lane (T A S O : Type 0) : Type 0 where
  pub steps : List T
  pub before : Seated S O
  pub after : Seated S O
  pub told : List A

abbrev pub tolds : {T A S O : Type 0} → List (Lane T A S O) → List (List A)
tolds lanes = map (λ l. l.told) lanes

abbrev pub afters : {T A S O : Type 0} → List (Lane T A S O) → List (Seated S O)
afters lanes = map (λ l. l.after) lanes

abbrev pub steps_all : {T A S O : Type 0} → List (Lane T A S O) → List (List T)
steps_all lanes = map (λ l. l.steps) lanes

module _ {T A S O R : Type 0} (admits : S → O → Type 0) (answer : S → List O → O → R) (MadeBy : T → A → List (Call O R) → Type 0) (count : T → ℕ) (most : List T → ℕ) where
  -- It was split from the main seat, and made its steps.
  pub record IsRun (main : Seated S O) (number : ℕ) (lane : Lane T A S O) : Type 0 where
    pub split : IsSplitSeat main number (most lane.steps) lane.before
    pub runs : RunsBy admits answer MadeBy count lane.before lane.steps lane.told lane.after

  unfoldable pub AreRunLanes : Seated S O → ℕ → List (Lane T A S O) → Type 0
  AreRunLanes main number [] = Unit {0}
  AreRunLanes main number (lane ∷ lanes) = IsRun main number lane × AreRunLanes main (number + 1) lanes

  one_ran : (main : Seated S O) (number : ℕ) (lane : Lane T A S O) → (is : IsRun main number lane) → IsLane admits answer main (number, is.runs.calls) lane.after
  one_ran main number lane is = lane_fact admits answer main (number, is.runs.calls) lane.after record {
    before = lane.before;
    number_is = is.split.number_is;
    seen_is = is.split.seen_is;
    olds_are = is.split.olds_are;
    mine_is = is.split.mine_is;
    start_is = is.split.start_is;
    chain = is.runs.chain;
  }

  -- The calls that the lanes made.
  record HaveMade (main : Seated S O) (width number : ℕ) (lanes : List (Lane T A S O)) : Type 0 where
    pub made : Block O R
    pub makes : LanesMake MadeBy number (steps_all lanes) (tolds lanes) made
    pub are : AreLanes admits answer main made (afters lanes)
    pub numbers : All (IsGivenFor main width) made
    pub past : All (λ lane. number ≤ lane.0) made
    pub rising : (n : ℕ) → Rise (length main.seen) (calls_in_block n made)

  lanes_ran : (main : Seated S O) (width number : ℕ) (lanes : List (Lane T A S O)) → main.children < number → number + length lanes ≤ main.children + width + 1 → AreRunLanes main number lanes → HaveMade main width number lanes
  unfolding AreRunLanes AreLanes LanesMake
  lanes_ran main width number [] past within are = record {
    made = [];
    makes = refl;
    are = tt;
    numbers = All-nil (IsGivenFor main width);
    past = All-nil (λ (lane : ℕ × List (Call O R)). number ≤ lane.0);
    rising = λ n. rise_none (length main.seen) [] refl;
  }
  lanes_ran main width number (lane ∷ lanes) past within are =
      let first = are.0 in
      let more = lanes_ran main width (number + 1) lanes (omega arith) (omega arith) are.1 in
      record {
        made = (number, first.runs.calls) ∷ more.made;
        makes = (first.runs.calls, more.made, refl, first.runs.made, more.makes);
        are = (one_ran main number lane first, more.are);
        numbers = All-cons (IsGivenFor main width) (number, first.runs.calls) more.made (past, omega arith) more.numbers;
        past = All-cons (λ (lane : ℕ × List (Call O R)). number ≤ lane.0) (number, first.runs.calls) more.made (omega arith) (λ k d within. let next = more.past k d within in omega (arith, next));
        rising = rise_block (length main.seen) number first.runs.calls more.made (λ k d within. let next = more.past k d within in omega (arith, next))
            (subst (λ l. Rise (length l) first.runs.calls) first.split.seen_is first.runs.rising) more.rising;
      }

  pub ran_block : (main off after : Seated S O) (calls : ℕ) (lanes : List (Lane T A S O)) → IsMain main → AreRunLanes main (main.children + 1) lanes → IsSplitOff main off (length lanes) calls
      → AreJoined off after (afters lanes) → HasRunBlock answer MadeBy main after (steps_all lanes) (tolds lanes)
  ran_block main off after calls lanes is are is_off joined =
      let seats : List (Seated S O) = afters lanes in
      let wide : length seats ≡ length lanes = length-map lanes (λ (l : Lane T A S O). l.after) in
      let width : length (steps_all lanes) ≡ length lanes = length-map lanes (λ (l : Lane T A S O). l.steps) in
      let all = lanes_ran main (length lanes) (main.children + 1) lanes (omega arith) (omega arith) are in
      record {
        made = all.made;
        makes = all.makes;
        lived = block_part admits answer main after (length (steps_all lanes)) all.made seats is all.are (subst (λ n. All (IsGivenFor main n) all.made) (sym width) all.numbers) all.rising record {
          number_is = joined.number_is ∙ is_off.number_is;
          start_is = joined.start_is ∙ is_off.start_is;
          lock_is = joined.lock_is ∙ is_off.lock_is;
          seen_is = joined.seen_is ∙ is_off.seen_is;
          mine_is = joined.mine_is ∙ is_off.mine_is;
          children_is = omega (arith, joined.children_is, is_off.children_is, width);
          width_is = wide ∙ sym width;
          olds_are = joined.olds_are ∙ ap (λ l. l ++ map (λ (s : Seated S O). s.seen) seats) is_off.olds_are;
          ended_are = joined.ended_are ∙ ap (λ l. l ++ map (λ (s : Seated S O). (s.number, s.mine)) seats) is_off.ended_are;
        };
      }

-- Works whose seats were split from the main seat of a lock: each has its steps, and its answers when it made them.
module _ {W T A S O R : Type 0} (admits : S → O → Type 0) (answer : S → List O → O → R) (MadeBy : T → A → List (Call O R) → Type 0) (count : T → ℕ) (most : List T → ℕ)
    (seat_of : W → Seated S O) (steps_of : W → List T) (told_of : W → List A) where
  -- Each made its steps.
  abbrev pub EachRan : List W → List W → Type 0
  EachRan works ran = (k : ℕ) (d : W) → k < length works
      → RunsBy admits answer MadeBy count (seat_of (get_or works k d)) (steps_of (get_or works k d)) (told_of (get_or ran k d)) (seat_of (get_or ran k d))

  lanes_of : List W → List W → List (Lane T A S O)
  lanes_of [] ran = []
  lanes_of (w ∷ works) [] = []
  lanes_of (w ∷ works) (r ∷ ran) = record { steps = steps_of w; before = seat_of w; after = seat_of r; told = told_of r } ∷ lanes_of works ran

  -- The lanes that they were.
  record AreLanesOf (main : Seated S O) (number : ℕ) (works ran : List W) : Type 0 where
    pub are : AreRunLanes admits answer MadeBy count most main number (lanes_of works ran)
    pub many : length (lanes_of works ran) ≡ length works
    pub steps : steps_all (lanes_of works ran) ≡ map steps_of works
    pub told : tolds (lanes_of works ran) ≡ map told_of ran
    pub seats : afters (lanes_of works ran) ≡ map seat_of ran

  are_lanes : (main : Seated S O) (number : ℕ) (works ran : List W) → AreSplit seat_of (λ w. most (steps_of w)) main number works → length ran ≡ length works → EachRan works ran → AreLanesOf main number works ran
  unfolding lanes_of AreSplit AreRunLanes
  are_lanes main number [] [] split same each = record { are = tt; many = refl; steps = refl; told = refl; seats = refl }
  are_lanes main number [] (r ∷ ran) split same each = absurd (omega arith)
  are_lanes main number (w ∷ works) [] split same each = absurd (omega arith)
  are_lanes main number (w ∷ works) (r ∷ ran) split same each =
      let more = are_lanes main (number + 1) works ran split.1 (omega arith) (λ k d inside. each (suc k) d (omega arith)) in
      record {
        are = (record { split = split.0; runs = each 0 w (omega arith) }, more.are);
        many = let many = more.many in omega (arith, many);
        steps = ap (λ l. steps_of w ∷ l) more.steps;
        told = ap (λ l. told_of r ∷ l) more.told;
        seats = ap (λ l. seat_of r ∷ l) more.seats;
      }

  pub works_ran : (main off after : Seated S O) (calls : ℕ) (works ran : List W) → IsMain main → AreSplit seat_of (λ w. most (steps_of w)) main (main.children + 1) works → IsSplitOff main off (length works) calls
      → length ran ≡ length works → EachRan works ran → AreJoined off after (map seat_of ran) → HasRunBlock answer MadeBy main after (map steps_of works) (map told_of ran)
  works_ran main off after calls works ran is split is_off same each joined =
      let all = are_lanes main (main.children + 1) works ran split same each in
      subst (HasRunBlock answer MadeBy main after (map steps_of works)) all.told (subst (λ l. HasRunBlock answer MadeBy main after l (tolds (lanes_of works ran))) all.steps
      (ran_block admits answer MadeBy count most main off after calls (lanes_of works ran) is all.are (subst (λ n. IsSplitOff main off n calls) (sym all.many) is_off) (subst (AreJoined off after) (sym all.seats) joined)))
