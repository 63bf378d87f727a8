-- Lanes that passed the main seats of locks one after the other, and what one lock saw of it.
use Rattle.std.specs.Prelude.{◌≡◌, ℕ, ◌+◌, ◌^◌, ◌<◌, ◌≤◌, List, [], ◌∷◌}
use Rattle.flt_turn.specs.Seats.{Seated, IsSeatOf, split_off, split_seat}
use Rattle.flt_fork.specs.Seats.{IsSplitSeat}

-- Each passed from the main seats that those before it left.
unfoldable pub HavePassed : {M X Y : Type 0} → (M → X → M → Y → Type 0) → M → List X → M → List Y → Type 0
HavePassed passes before [] after [] = after ≡ before
HavePassed passes before [] after (y ∷ ys) = ⊥
HavePassed passes before (x ∷ xs) after [] = ⊥
HavePassed {M} passes before (x ∷ xs) after (y ∷ ys) = (between : M) × passes before x between y × HavePassed passes between xs after ys

module _ {S O : Type 0} where
  -- It is the main seat of this lock.
  pub record IsMainOf (lock : _) (main : Seated S O) : Type 0 where
    pub lock_is : IsSeatOf lock main
    pub number_is : main.number ≡ 0

  -- And this many seats can be split from it, with this many calls in all.
  pub record CanSplit (lock : _) (main : Seated S O) (seats calls : ℕ) : Type 0 where
    pub main_is : IsMainOf lock main
    pub numbers : main.children + seats < 2 ^ 32
    pub enough : calls ≤ main.left

  -- A seat with this many calls was split from the main seat.
  pub record Splits (main : Seated S O) (calls : ℕ) (after seat : Seated S O) : Type 0 where
    pub enough : calls ≤ main.left
    pub after_is : after ≡ split_off calls main
    pub seat_is : seat ≡ split_seat calls main

  -- The seats of these lanes were split from the main seat, each with its calls, with numbers that go on from this one.
  unfoldable pub AreSplit : {W : Type 0} → (W → Seated S O) → (W → ℕ) → Seated S O → ℕ → List W → Type 0
  AreSplit seat_of calls_of main number [] = Unit {0}
  AreSplit seat_of calls_of main number (w ∷ works) = IsSplitSeat main number (calls_of w) (seat_of w) × AreSplit seat_of calls_of main (number + 1) works
