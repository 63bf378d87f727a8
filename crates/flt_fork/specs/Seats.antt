-- The seats of lanes on one lock: split from the main seat, and joined again.
use Rattle.std.specs.Prelude.{◌≡◌, ℕ, ◌+◌, ◌≤◌, List, [], ◌++◌, map}
use Rattle.flt_turn.specs.Seats.{Seated}

module _ {S O : Type 0} where
  -- A seat that was split from the main seat: it knows what that one knew, and has this many calls.
  pub record IsSplitSeat (main : Seated S O) (number calls : ℕ) (seat : Seated S O) : Type 0 where
    pub number_is : seat.number ≡ number
    pub start_is : seat.start ≡ main.start
    pub seen_is : seat.seen ≡ main.seen
    pub olds_are : seat.olds ≡ main.olds
    pub mine_is : seat.mine ≡ []
    pub left_is : seat.left ≡ calls

  -- The main seat, when this many seats with this many calls in all were split from it.
  pub record IsSplitOff (main after : Seated S O) (seats calls : ℕ) : Type 0 where
    pub number_is : after.number ≡ main.number
    pub start_is : after.start ≡ main.start
    pub lock_is : after.lock ≡ main.lock
    pub seen_is : after.seen ≡ main.seen
    pub mine_is : after.mine ≡ main.mine
    pub olds_are : after.olds ≡ main.olds
    pub ended_are : after.ended ≡ main.ended
    pub children_is : after.children ≡ main.children + seats
    pub left_is : after.left + calls ≡ main.left

  -- The main seat, when it has joined these seats.
  pub record AreJoined (main after : Seated S O) (seats : List (Seated S O)) : Type 0 where
    pub number_is : after.number ≡ main.number
    pub start_is : after.start ≡ main.start
    pub lock_is : after.lock ≡ main.lock
    pub seen_is : after.seen ≡ main.seen
    pub mine_is : after.mine ≡ main.mine
    pub children_is : after.children ≡ main.children
    pub olds_are : after.olds ≡ main.olds ++ map (λ (s : Seated S O). s.seen) seats
    pub ended_are : after.ended ≡ main.ended ++ map (λ (s : Seated S O). (s.number, s.mine)) seats
    pub left_is : main.left ≤ after.left
