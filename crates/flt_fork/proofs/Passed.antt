-- Lanes that passed the main seats one after the other.
use Rattle.std.proofs.Common.{◌≡◌, ℕ, ◌≤◌, ◌+◌, List, [], ◌∷◌, ◌++◌, All, length, map, arith, refl, sym, ap, subst, ◌∙◌}
use Rattle.std.specs.Prelude.{Vec, sum_by, vec_len}
use Rattle.std.specs.Vec.{vec_capacity}
use Rattle.std.proofs.lemmas.List.{append-nil, append_assoc, length-append, map-append}
use Rattle.std.proofs.lemmas.List.Sums.{sum_by-cons}
use Rattle.std.proofs.lemmas.List.Elements.{All-cons, All-nil}
use Rattle.flt_turn.specs.Seats.{Seated, joined_seat, split_off, split_seat}
use Rattle.flt_fork.specs.Seats.{IsSplitSeat, IsSplitOff, AreJoined}
use Rattle.flt_fork.specs.Passed.{HavePassed, Splits, AreSplit, CanSplit, IsMainOf}
use Rattle.flt_fork.proofs.Seats.{joined_first, joined_more, off_first, off_more, seat_split}

-- The same counts, written otherwise.
count_same : {S O : Type 0} (main after : Seated S O) (seats calls more_seats more_calls : ℕ) → more_seats ≡ seats → more_calls ≡ calls → IsSplitOff main after seats calls → IsSplitOff main after more_seats more_calls
count_same main after seats calls more_seats more_calls count sum off =
    subst (λ n. IsSplitOff main after n more_calls) (sym count) (subst (λ n. IsSplitOff main after seats n) (sym sum) off)

module _ {M X Y : Type 0} (passes : M → X → M → Y → Type 0) where
  pub passed_more : (before : M) (xs : List X) (now : M) (ys : List Y) (x : X) (after : M) (y : Y) → HavePassed passes before xs now ys → passes now x after y
      → HavePassed passes before (xs ++ x ∷ []) after (ys ++ y ∷ [])
  unfolding HavePassed
  passed_more before [] now [] x after y same one = (after, subst (λ m. passes m x after y) same one, refl)
  passed_more before [] now (y0 ∷ ys) x after y are one = absurd are
  passed_more before (x0 ∷ xs) now [] x after y are one = absurd are
  passed_more before (x0 ∷ xs) now (y0 ∷ ys) x after y are one = (are.0, are.1, passed_more are.0 xs now ys x after y are.2 one)

  -- What came out where nothing was before.
  pub passed_alone : (before : M) (xs : List X) (after : M) (old now more : List Y) → old ≡ [] → now ≡ old ++ more → HavePassed passes before xs after more → HavePassed passes before xs after now
  passed_alone before xs after old now more none is are = subst (HavePassed passes before xs after) (sym (is ∙ ap (λ l. l ++ more) none)) are

  -- What each pass leaves of its lane.
  pub passed_each : (P : Y → Type 0) → ((before : M) (x : X) (after : M) (y : Y) → passes before x after y → P y)
      → (before : M) (xs : List X) (after : M) (ys : List Y) → HavePassed passes before xs after ys → All P ys
  unfolding HavePassed
  passed_each P one before [] after [] are = All-nil P
  passed_each P one before [] after (y ∷ ys) are = absurd are
  passed_each P one before (x ∷ xs) after [] are = absurd are
  passed_each P one before (x ∷ xs) after (y ∷ ys) are = All-cons P y ys (one before x are.0 y are.1) (passed_each P one are.0 xs after ys are.2)

  pub passed_same : {Z : Type 0} (f : X → Z) (h : Y → Z) → ((before : M) (x : X) (after : M) (y : Y) → passes before x after y → h y ≡ f x)
      → (before : M) (xs : List X) (after : M) (ys : List Y) → HavePassed passes before xs after ys → map h ys ≡ map f xs
  unfolding HavePassed
  passed_same f h one before [] after [] are = refl
  passed_same f h one before [] after (y ∷ ys) are = absurd are
  passed_same f h one before (x ∷ xs) after [] are = absurd are
  passed_same f h one before (x ∷ xs) after (y ∷ ys) are =
      let first = one before x are.0 y are.1 in
      let more = passed_same f h one are.0 xs after ys are.2 in
      λ i. first i ∷ more i

  -- So it is after what was there before.
  pub passed_behind : {Z : Type 0} (f : X → Z) (h : Y → Z) → ((before : M) (x : X) (after : M) (y : Y) → passes before x after y → h y ≡ f x)
      → (before : M) (xs : List X) (after : M) (old now more : List Y) → now ≡ old ++ more → HavePassed passes before xs after more → map h now ≡ map h old ++ map f xs
  passed_behind f h one before xs after old now more is are = ap (map h) is ∙ map-append h old more ∙ ap (λ l. map h old ++ l) (passed_same f h one before xs after more are)

  -- What the lanes leave of one lock, from which each pass splits a seat, by what the lane has to do.
  module _ {S O T : Type 0} (main_of : M → Seated S O) (seat_of : Y → Seated S O) (steps_of : Y → T) (most : T → ℕ)
      (splits : (before : M) (x : X) (after : M) (y : Y) → passes before x after y → Splits (main_of before) (most (steps_of y)) (main_of after) (seat_of y)) where
    -- The seats, and what is left of the main seat.
    record Split (main after : Seated S O) (number seats calls : ℕ) (ys : List Y) : Type 0 where
      pub seats_are : AreSplit seat_of (λ y. most (steps_of y)) main number ys
      pub off : IsSplitOff main after (seats + length ys) (calls + sum_by most (map steps_of ys))

    split_from : (main : Seated S O) (seats calls : ℕ) (before : M) (xs : List X) (after : M) (ys : List Y) → IsSplitOff main (main_of before) seats calls → HavePassed passes before xs after ys
        → Split main (main_of after) (main.children + seats + 1) seats calls ys
    unfolding HavePassed AreSplit
    split_from main seats calls before [] after [] off are =
        record { seats_are = tt; off = count_same main (main_of after) seats calls _ _ (omega arith) (omega arith) (subst (λ m. IsSplitOff main (main_of m) seats calls) (sym are) off) }
    split_from main seats calls before [] after (y ∷ ys) off are = absurd are
    split_from main seats calls before (x ∷ xs) after [] off are = absurd are
    split_from main seats calls before (x ∷ xs) after (y ∷ ys) off are =
        let one = splits before x are.0 y are.1 in
        let more = most (steps_of y) in
        let next = off_more main (main_of before) (main_of are.0) seats calls more (seats + 1) (calls + more) off one.after_is one.enough refl refl in
        let rest = split_from main (seats + 1) (calls + more) are.0 xs after ys next are.2 in
        let seat = seat_split main (main_of before) (seat_of y) seats calls more off one.seat_is in
        let sum = sum_by-cons most (steps_of y) (map steps_of ys) in
        record {
          seats_are = (
            subst (λ n. IsSplitSeat main n more (seat_of y)) (omega (arith, off.children_is)) seat,
            subst (λ n. AreSplit seat_of (λ y. most (steps_of y)) main n ys) (omega arith) rest.seats_are,
          );
          off = count_same main (main_of after) _ _ _ _ (omega arith) (omega (arith, sum)) rest.off;
        }

    pub split_seats : (before : M) (xs : List X) (after : M) (ys : List Y) → HavePassed passes before xs after ys → AreSplit seat_of (λ y. most (steps_of y)) (main_of before) ((main_of before).children + 1) ys
    split_seats before xs after ys are =
        subst (λ n. AreSplit seat_of (λ y. most (steps_of y)) (main_of before) n ys) (omega arith) (split_from (main_of before) 0 0 before xs after ys (off_first (main_of before)) are).seats_are

    pub split_main : (before : M) (xs : List X) (after : M) (ys : List Y) → HavePassed passes before xs after ys → IsSplitOff (main_of before) (main_of after) (length ys) (sum_by most (map steps_of ys))
    split_main before xs after ys are =
        count_same (main_of before) (main_of after) _ _ _ _ (omega arith) (omega arith) (split_from (main_of before) 0 0 before xs after ys (off_first (main_of before)) are).off

  -- And of one lock, with which each pass joins a seat.
  module _ {S O : Type 0} (main_of : M → Seated S O) (seat_of : X → Seated S O)
      (joins : (before : M) (x : X) (after : M) (y : Y) → passes before x after y → main_of after ≡ joined_seat (main_of before) (seat_of x)) where
    joined_from : (main : Seated S O) (seats : List (Seated S O)) (before : M) (xs : List X) (after : M) (ys : List Y) → AreJoined main (main_of before) seats → HavePassed passes before xs after ys
        → AreJoined main (main_of after) (seats ++ map seat_of xs)
    unfolding HavePassed
    joined_from main seats before [] after [] so_far are = subst (AreJoined main (main_of after)) (sym (append-nil seats)) (subst (λ m. AreJoined main (main_of m) seats) (sym are) so_far)
    joined_from main seats before [] after (y ∷ ys) so_far are = absurd are
    joined_from main seats before (x ∷ xs) after [] so_far are = absurd are
    joined_from main seats before (x ∷ xs) after (y ∷ ys) so_far are =
        let next = joined_more main (main_of before) (main_of are.0) seats (seat_of x) so_far (joins before x are.0 y are.1) in
        subst (AreJoined main (main_of after)) (append_assoc seats (seat_of x ∷ []) (map seat_of xs)) (joined_from main (seats ++ seat_of x ∷ []) are.0 xs after ys next are.2)

    pub joined_seats : (before : M) (xs : List X) (after : M) (ys : List Y) → HavePassed passes before xs after ys → AreJoined (main_of before) (main_of after) (map seat_of xs)
    joined_seats before xs after ys are = joined_from (main_of before) [] before xs after ys (joined_first (main_of before)) are

-- ---- some of them

-- This many passed: what comes out is put after what is there, and the others may pass.
pub record IsPassing {M X Y A : Type 0} (passes : M → X → M → Y → Type 0) (can_pass : M → List X → Type 0) (main now : M) (lanes : List X) (before out : Vec Y A) (done rest : List X) : Type 0 where
  pub all : done ++ rest ≡ lanes
  pub can : can_pass now rest
  pub more : List Y
  pub items : out.items ≡ before.items ++ more
  pub passed : HavePassed passes main done now more
  pub len : vec_len out ≡ vec_len before + length done
  pub room : vec_capacity out ≡ vec_capacity before

module _ {M X Y A : Type 0} (passes : M → X → M → Y → Type 0) (can_pass : M → List X → Type 0) (main : M) (lanes : List X) where
  pub passing_begins : (out : Vec Y A) (rest : List X) → rest ≡ lanes → can_pass main lanes → IsPassing passes can_pass main main lanes out out [] rest
  unfolding HavePassed
  passing_begins out rest is can = record {
    all = is;
    can = subst (can_pass main) (sym is) can;
    more = [];
    items = sym (append-nil out.items);
    passed = refl;
    len = omega arith;
    room = refl;
  }

  module _ (now : M) (before out : Vec Y A) (done rest later : List X) (lane : X) (on : IsPassing passes can_pass main now lanes before out done rest) (next : rest ≡ lane ∷ later) where
    pub next_can : can_pass now (lane ∷ later)
    next_can = subst (can_pass now) next on.can

    pub passing_more : (after : M) (y : Y) (put : Vec Y A) → passes now lane after y → ((l : List X) → can_pass now (lane ∷ l) → can_pass after l) → put.items ≡ out.items ++ y ∷ [] → vec_len put ≡ vec_len out + 1
        → vec_capacity put ≡ vec_capacity out → IsPassing passes can_pass main after lanes before put (done ++ lane ∷ []) later
    passing_more after y put one goes_on items len room = record {
      all = append_assoc done (lane ∷ []) later ∙ ap (λ l. done ++ l) (sym next) ∙ on.all;
      can = goes_on later next_can;
      more = on.more ++ y ∷ [];
      items = items ∙ ap (λ l. l ++ y ∷ []) on.items ∙ append_assoc before.items on.more (y ∷ []);
      passed = passed_more passes main done now on.more lane after y on.passed one;
      len = let count = length-append done (lane ∷ []) in omega (arith, len, on.len, count);
      room = room ∙ on.room;
    }

-- What holds of each seat that was split.
module _ {S O W : Type 0} (seat_of : W → Seated S O) (calls_of : W → ℕ) (main : Seated S O) (P : W → Type 0) (one : (number : ℕ) (w : W) → IsSplitSeat main number (calls_of w) (seat_of w) → P w) where
  pub split_each : (number : ℕ) (works : List W) → AreSplit seat_of calls_of main number works → All P works
  unfolding AreSplit
  split_each number [] are = All-nil P
  split_each number (w ∷ works) are = All-cons P w works (one number w are.0) (split_each (number + 1) works are.1)

-- ---- one pass

module _ {S O : Type 0} (main after seat : Seated S O) where
  pub splits_with : (calls more : ℕ) → more ≡ calls → calls ≤ main.left → after ≡ split_off calls main → seat ≡ split_seat calls main → Splits main more after seat
  splits_with calls more same enough off is = record {
    enough = omega (arith, same, enough);
    after_is = off ∙ ap (λ n. split_off n main) (sym same);
    seat_is = is ∙ ap (λ n. split_seat n main) (sym same);
  }

module _ {S O : Type 0} (lock : _) (main after seat : Seated S O) where
  -- The other seats can be split off after it.
  pub splits_on : (calls seats all_seats more all_calls : ℕ) → Splits main calls after seat → all_seats ≡ seats + 1 → all_calls ≡ calls + more → CanSplit lock main all_seats all_calls → CanSplit lock after seats more
  splits_on calls seats all_seats more all_calls is count sum can = record {
    main_is = record {
      lock_is = ap (λ (s : Seated S O). s.lock) is.after_is ∙ can.main_is.lock_is;
      number_is = ap (λ (s : Seated S O). s.number) is.after_is ∙ can.main_is.number_is;
    };
    numbers = let children = ap (λ (s : Seated S O). s.children) is.after_is in omega (arith, children, count, can.numbers);
    enough = let left = ap (λ (s : Seated S O). s.left) is.after_is in omega (arith, left, sum, can.enough, is.enough);
  }

  -- And joined after it.
  pub joins_on : after ≡ joined_seat main seat → IsMainOf lock main → IsMainOf lock after
  joins_on is main_is = record {
    lock_is = ap (λ (s : Seated S O). s.lock) is ∙ main_is.lock_is;
    number_is = ap (λ (s : Seated S O). s.number) is ∙ main_is.number_is;
  }
