-- The seats of lanes on one lock, one after the other.
use Rattle.std.proofs.Common.{◌≡◌, ℕ, ◌≤◌, ◌+◌, List, [], ◌∷◌, ◌++◌, map, arith, refl, sym, ap, ◌∙◌}
use Rattle.std.proofs.lemmas.List.{append-nil, append_assoc, map-append}
use Rattle.flt_turn.specs.Seats.{Seated, split_off, split_seat, joined_seat}
use Rattle.flt_fork.specs.Seats.{IsSplitSeat, IsSplitOff, AreJoined}

module _ {S O : Type 0} where
  pub joined_first : (main : Seated S O) → AreJoined main main []
  joined_first main = record {
    number_is = refl;
    start_is = refl;
    lock_is = refl;
    seen_is = refl;
    mine_is = refl;
    children_is = refl;
    olds_are = sym (append-nil main.olds);
    ended_are = sym (append-nil main.ended);
    left_is = omega arith;
  }

  pub joined_more : (main now after : Seated S O) (seats : List (Seated S O)) (seat : Seated S O) → AreJoined main now seats → after ≡ joined_seat now seat → AreJoined main after (seats ++ seat ∷ [])
  joined_more main now after seats seat are is = record {
    number_is = ap (λ (s : Seated S O). s.number) is ∙ are.number_is;
    start_is = ap (λ (s : Seated S O). s.start) is ∙ are.start_is;
    lock_is = ap (λ (s : Seated S O). s.lock) is ∙ are.lock_is;
    seen_is = ap (λ (s : Seated S O). s.seen) is ∙ are.seen_is;
    mine_is = ap (λ (s : Seated S O). s.mine) is ∙ are.mine_is;
    children_is = ap (λ (s : Seated S O). s.children) is ∙ are.children_is;
    olds_are = ap (λ (s : Seated S O). s.olds) is ∙ ap (λ l. l ++ seat.seen ∷ []) are.olds_are ∙ append_assoc main.olds (map (λ (s : Seated S O). s.seen) seats) (seat.seen ∷ [])
        ∙ ap (λ l. main.olds ++ l) (sym (map-append (λ (s : Seated S O). s.seen) seats (seat ∷ [])));
    ended_are = ap (λ (s : Seated S O). s.ended) is ∙ ap (λ l. l ++ (seat.number, seat.mine) ∷ []) are.ended_are ∙ append_assoc main.ended (map (λ (s : Seated S O). (s.number, s.mine)) seats) ((seat.number, seat.mine) ∷ [])
        ∙ ap (λ l. main.ended ++ l) (sym (map-append (λ (s : Seated S O). (s.number, s.mine)) seats (seat ∷ [])));
    left_is = let left = ap (λ (s : Seated S O). s.left) is in omega (arith, left, are.left_is);
  }

  pub off_first : (main : Seated S O) → IsSplitOff main main 0 0
  off_first main = record {
    number_is = refl;
    start_is = refl;
    lock_is = refl;
    seen_is = refl;
    mine_is = refl;
    olds_are = refl;
    ended_are = refl;
    children_is = omega arith;
    left_is = omega arith;
  }

  pub off_more : (main now after : Seated S O) (seats calls more seats_after calls_after : ℕ) → IsSplitOff main now seats calls → after ≡ split_off more now → more ≤ now.left → seats_after ≡ seats + 1 → calls_after ≡ calls + more
      → IsSplitOff main after seats_after calls_after
  off_more main now after seats calls more seats_after calls_after off is enough count sum = record {
    number_is = ap (λ (s : Seated S O). s.number) is ∙ off.number_is;
    start_is = ap (λ (s : Seated S O). s.start) is ∙ off.start_is;
    lock_is = ap (λ (s : Seated S O). s.lock) is ∙ off.lock_is;
    seen_is = ap (λ (s : Seated S O). s.seen) is ∙ off.seen_is;
    mine_is = ap (λ (s : Seated S O). s.mine) is ∙ off.mine_is;
    olds_are = ap (λ (s : Seated S O). s.olds) is ∙ off.olds_are;
    ended_are = ap (λ (s : Seated S O). s.ended) is ∙ off.ended_are;
    children_is = let c = ap (λ (s : Seated S O). s.children) is in omega (arith, c, count, off.children_is);
    left_is = let l = ap (λ (s : Seated S O). s.left) is in omega (arith, l, sum, off.left_is, enough);
  }

  pub seat_split : (main now seat : Seated S O) (seats calls more : ℕ) → IsSplitOff main now seats calls → seat ≡ split_seat more now → IsSplitSeat main (now.children + 1) more seat
  seat_split main now seat seats calls more off is = record {
    number_is = ap (λ (s : Seated S O). s.number) is;
    start_is = ap (λ (s : Seated S O). s.start) is ∙ off.start_is;
    seen_is = ap (λ (s : Seated S O). s.seen) is ∙ off.seen_is;
    olds_are = ap (λ (s : Seated S O). s.olds) is ∙ off.olds_are;
    mine_is = ap (λ (s : Seated S O). s.mine) is;
    left_is = ap (λ (s : Seated S O). s.left) is;
  }
