-- A block: where the calls of its lanes are in any journal in which the lock could be closed after it.
use Rattle.std.proofs.Common.{◌≡◌, ◌⊎◌, inl, inr, ⊎_elim, ℕ, ◌<◌, ◌≤◌, ◌+◌, Bool, true, false, leb, leb-true, leb-false, List, [], ◌∷◌, ◌++◌, All, Some, length, map, get_or, arith, refl, sym, ap, subst, ◌∙◌}
use Rattle.std.specs.Prelude.{Contains, slice_get}
use Rattle.std.proofs.lemmas.List.{length-append, length-map, append-nil, get_or-map}
use Rattle.std.proofs.lemmas.List.Elements.{All-map, All-contains, All-nil, All-cons, All-append, All-weaker, All-contains_itself, All-head, All-tail, Contains-append_left, Contains-append_right}
use mathlib.Core.List.{IsPrefix}
use Rattle.flt_turn.specs.declared.vault.Entry.{Entry}
use Rattle.flt_turn.specs.Journal.{entry, calls_of}
use Rattle.flt_turn.specs.Seats.{Seated}
use Rattle.flt_turn.proofs.Journals.{calls_of-append}
use Rattle.flt_fork.specs.Mixing.{Call, ops_asked, Mixes, Block, asked_of, IsToldInPlace, BlockTold, Rise, calls_in_block}
use Rattle.flt_fork.specs.Chain.{Chain}
use Rattle.flt_fork.specs.Lived.{IsEnded, IsMain, CouldClose, Trails, HasLived}
use Rattle.flt_fork.proofs.Journals.{none_of, IsFull, full_front, more_calls, no_call_behind, no_call_before, low_front, high_rest, cut_at, low_prefix, low_calls, behind_front}
use Rattle.flt_fork.proofs.Chains.{chain_fact}
use Rattle.flt_fork.proofs.Mixings.{calls_longer, one_follows}
use Rattle.flt_fork.proofs.Rising.{none_in_block, rise_from, rise_none, rise_of_block, told_in_block}

-- ---- lists

module _ {X : Type 0} (P : X → Type 0) where
  pub all_left : (xs ys : List X) → All P (xs ++ ys) → All P xs
  all_left xs ys all = All-weaker (Contains xs) P (λ x c. All-contains P (xs ++ ys) x all (Contains-append_left xs ys x c)) xs (All-contains_itself xs)

  pub all_right : (xs ys : List X) → All P (xs ++ ys) → All P ys
  all_right xs ys all = All-weaker (Contains ys) P (λ y c. All-contains P (xs ++ ys) y all (Contains-append_right xs ys y c)) ys (All-contains_itself ys)

  pub all_of_map : {Y : Type 0} (f : Y → X) (ys : List Y) → All P (map f ys) → All (λ y. P (f y)) ys
  all_of_map f ys all k d within = subst P (get_or-map f ys k d (f d) within) (all k (f d) (omega (arith, within, length-map ys f)))

-- The number of each lane is among their numbers.
pub number_among : {O : Type 0} → (lanes : List (ℕ × List O)) → All (λ lane. Contains (map (λ l. l.0) lanes) lane.0) lanes
number_among lanes = all_of_map (Contains (map (λ l. l.0) lanes)) (λ l. l.0) lanes (All-contains_itself (map (λ l. l.0) lanes))

-- What a main seat is that has joined these seats.
pub record HasJoined {S O : Type 0} (main after : Seated S O) (width : ℕ) (afters : List (Seated S O)) : Type 0 where
  pub number_is : after.number ≡ main.number
  pub start_is : after.start ≡ main.start
  pub lock_is : after.lock ≡ main.lock
  pub seen_is : after.seen ≡ main.seen
  pub mine_is : after.mine ≡ main.mine
  pub children_is : after.children ≡ main.children + width
  pub width_is : length afters ≡ width
  pub olds_are : after.olds ≡ main.olds ++ map (λ (s : Seated S O). s.seen) afters
  pub ended_are : after.ended ≡ main.ended ++ map (λ (s : Seated S O). (s.number, s.mine)) afters

-- The number of the lane was given out for a block.
abbrev pub IsGivenFor : {S O X : Type 0} → Seated S O → ℕ → (ℕ × X) → Type 0
IsGivenFor main width lane = (main.children < lane.0) × (lane.0 ≤ main.children + width)

-- Each lane makes its first call after what was known before the block.
abbrev pub IsFresh : {S O R : Type 0} → Seated S O → (ℕ × List (Call O R)) → Type 0
IsFresh {S} {O} main lane = (old : List (Entry O)) → (IsPrefix old main.seen ⊎ Contains main.olds old) → (lane.1 ≡ []) ⊎ (calls_of lane.0 old ≡ [])

module _ {S O R : Type 0} (admits : S → O → Type 0) (answer : S → List O → O → R) where
  -- ---- a lane of a block

  -- Its seat was split from the main seat, and made the calls.
  pub record HasRunFrom (main : Seated S O) (lane : ℕ × List (Call O R)) (after : Seated S O) : Type 0 where
    pub before : Seated S O
    pub number_is : before.number ≡ lane.0
    pub seen_is : before.seen ≡ main.seen
    pub olds_are : before.olds ≡ main.olds
    pub mine_is : before.mine ≡ []
    pub start_is : before.start ≡ main.start
    pub chain : Chain admits answer before lane.1 after

  -- And what follows of it.
  pub record IsLane (main : Seated S O) (lane : ℕ × List (Call O R)) (after : Seated S O) : Type 0 where
    pub number_is : after.number ≡ lane.0
    pub mine_is : after.mine ≡ ops_asked lane.1
    pub own : length after.mine ≤ length (calls_of after.number after.seen)
    pub fresh : IsFresh main lane
    pub told : All (IsToldInPlace answer main.start after.seen lane.0) lane.1

  pub lane_fact : (main : Seated S O) (lane : ℕ × List (Call O R)) (after : Seated S O) → HasRunFrom main lane after → IsLane main lane after
  lane_fact main lane after r = let f = chain_fact admits answer r.before lane.1 after r.chain in record {
    number_is = f.number_is ∙ r.number_is;
    mine_is = f.mine_is ∙ ap (λ l. l ++ ops_asked lane.1) r.mine_is;
    own = f.own (omega (arith, ap length r.mine_is));
    fresh = λ old known. subst (λ n. (lane.1 ≡ []) ⊎ (calls_of n old ≡ [])) r.number_is (f.fresh r.mine_is old
        (⊎_elim (λ p. inl (subst (IsPrefix old) (sym r.seen_is) p)) (λ c. inr (subst (λ l. Contains l old) (sym r.olds_are) c)) known));
    told = subst (λ n. All (IsToldInPlace answer main.start after.seen n) lane.1) r.number_is (subst (λ s. All (IsToldInPlace answer s after.seen r.before.number) lane.1) r.start_is f.told);
  }

  -- ---- the lanes of a block

  unfoldable pub AreLanes : Seated S O → Block O R → List (Seated S O) → Type 0
  AreLanes main [] [] = Unit {0}
  AreLanes main [] (after ∷ afters) = ⊥
  AreLanes main (lane ∷ lanes) [] = ⊥
  AreLanes main (lane ∷ lanes) (after ∷ afters) = IsLane main lane after × AreLanes main lanes afters

  lanes_ended : (main : Seated S O) (lanes : Block O R) (afters : List (Seated S O)) → AreLanes main lanes afters → map (λ (s : Seated S O). (s.number, s.mine)) afters ≡ asked_of lanes
  unfolding AreLanes
  lanes_ended main [] [] are = refl
  lanes_ended main [] (a ∷ afters) are = absurd are
  lanes_ended main (lane ∷ lanes) [] are = absurd are
  lanes_ended main (lane ∷ lanes) (a ∷ afters) are = λ i. (are.0.number_is i, are.0.mine_is i) ∷ lanes_ended main lanes afters are.1 i

  lanes_fresh : (main : Seated S O) (lanes : Block O R) (afters : List (Seated S O)) → AreLanes main lanes afters → All (IsFresh main) lanes
  unfolding AreLanes
  lanes_fresh main [] [] are = All-nil (IsFresh main)
  lanes_fresh main [] (a ∷ afters) are = absurd are
  lanes_fresh main (lane ∷ lanes) [] are = absurd are
  lanes_fresh main (lane ∷ lanes) (a ∷ afters) are = All-cons (IsFresh main) lane lanes are.0.fresh (lanes_fresh main lanes afters are.1)

  -- Each lane's calls are known to its own seat.
  lanes_own : (main : Seated S O) (lanes : Block O R) (afters : List (Seated S O)) → AreLanes main lanes afters → All (λ (s : Seated S O). length s.mine ≤ length (calls_of s.number s.seen)) afters
  unfolding AreLanes
  lanes_own main [] [] are = All-nil (λ (s : Seated S O). length s.mine ≤ length (calls_of s.number s.seen))
  lanes_own main [] (a ∷ afters) are = absurd are
  lanes_own main (lane ∷ lanes) [] are = absurd are
  lanes_own main (lane ∷ lanes) (a ∷ afters) are =
      All-cons (λ (s : Seated S O). length s.mine ≤ length (calls_of s.number s.seen)) a afters are.0.own (lanes_own main lanes afters are.1)

  lanes_told : (main : Seated S O) (journal : List (Entry O)) (lanes : Block O R) (afters : List (Seated S O)) → AreLanes main lanes afters
      → All (λ (s : Seated S O). IsPrefix s.seen journal) afters → BlockTold answer main.start journal lanes
  unfolding AreLanes
  lanes_told main journal [] [] are known = All-nil (λ (lane : ℕ × List (Call O R)). All (IsToldInPlace answer main.start journal lane.0) lane.1)
  lanes_told main journal [] (a ∷ afters) are known = absurd are
  lanes_told main journal (lane ∷ lanes) [] are known = absurd are
  lanes_told main journal (lane ∷ lanes) (a ∷ afters) are known = All-cons (λ (lane : ℕ × List (Call O R)). All (IsToldInPlace answer main.start journal lane.0) lane.1) lane lanes
      (calls_longer answer main.start a.seen journal lane.0 lane.1 (All-head (λ (s : Seated S O). IsPrefix s.seen journal) a afters known) are.0.told)
      (lanes_told main journal lanes afters are.1 (All-tail (λ (s : Seated S O). IsPrefix s.seen journal) a afters known))

  -- ---- the block

  pub block_part : (main after : Seated S O) (width : ℕ) (lanes : Block O R) (afters : List (Seated S O)) → IsMain main → AreLanes main lanes afters
      → All (IsGivenFor main width) lanes → ((number : ℕ) → Rise (length main.seen) (calls_in_block number lanes)) → HasJoined main after width afters → HasLived answer main after width (lanes ∷ [])
  block_part main after width lanes afters is are numbers rising joined = record {
    main_after = main_after;
    start_is = joined.start_is;
    lock_is = joined.lock_is;
    children_is = joined.children_is;
    trails = trails;
  }
    where
      new : List (ℕ × List O)
      new = asked_of lanes

      news : map (λ (s : Seated S O). (s.number, s.mine)) afters ≡ new
      news = lanes_ended main lanes afters are

      ended_are : after.ended ≡ main.ended ++ new
      ended_are = joined.ended_are ∙ ap (λ l. main.ended ++ l) news

      new_numbers : All (IsGivenFor main width) new
      new_numbers = All-map (IsGivenFor main width) (λ lane. (lane.0, ops_asked lane.1)) lanes numbers

      old_ended : All (IsEnded after) main.ended
      old_ended k d within = let e = is.ended k d within in record {
        some = e.some;
        given = omega (arith, e.given, joined.children_is);
        known = e.known;
        among = subst (λ l. Contains l e.known) (sym joined.olds_are) (Contains-append_left main.olds (map (λ (s : Seated S O). s.seen) afters) e.known e.among);
        all = e.all;
      }

      seat_numbers : All (IsGivenFor main width) (map (λ (s : Seated S O). (s.number, s.mine)) afters)
      seat_numbers = subst (All (IsGivenFor main width)) (sym news) new_numbers

      own : All (λ (s : Seated S O). length s.mine ≤ length (calls_of s.number s.seen)) afters
      own = lanes_own main lanes afters are

      seat_among : All (λ (s : Seated S O). Contains (map (λ (t : Seated S O). t.seen) afters) s.seen) afters
      seat_among = all_of_map (Contains (map (λ (t : Seated S O). t.seen) afters)) (λ (t : Seated S O). t.seen) afters (All-contains_itself (map (λ (t : Seated S O). t.seen) afters))

      numbers_of_seats : All (λ (s : Seated S O). (main.children < s.number) × (s.number ≤ main.children + width)) afters
      numbers_of_seats = all_of_map (IsGivenFor main width) (λ (s : Seated S O). (s.number, s.mine)) afters seat_numbers

      new_ended : All (λ (s : Seated S O). IsEnded after (s.number, s.mine)) afters
      new_ended k d within = let n = numbers_of_seats k d within in record {
        some = omega (arith, n.0);
        given = omega (arith, n.1, joined.children_is);
        known = (get_or afters k d).seen;
        among = subst (λ l. Contains l (get_or afters k d).seen) (sym joined.olds_are) (Contains-append_right main.olds (map (λ (s : Seated S O). s.seen) afters) (get_or afters k d).seen (seat_among k d within));
        all = own k d within;
      }

      seats_mapped : length (map {A = Seated S O} {B = ℕ × List O} (λ s. (s.number, s.mine)) afters) ≡ length afters
      seats_mapped = length-map {A = Seated S O} {B = ℕ × List O} afters (λ s. (s.number, s.mine))

      main_after : IsMain after
      main_after = record {
        number_is = joined.number_is ∙ is.number_is;
        own = rw (joined.mine_is, joined.number_is, joined.seen_is) is.own;
        ended = subst (All (IsEnded after)) (sym joined.ended_are) (All-append (IsEnded after) main.ended (map (λ (s : Seated S O). (s.number, s.mine)) afters) old_ended
            (All-map (IsEnded after) (λ (s : Seated S O). (s.number, s.mine)) afters new_ended));
        joined = omega (arith, ap length joined.ended_are, length-append main.ended (map (λ (s : Seated S O). (s.number, s.mine)) afters), seats_mapped, is.joined, joined.children_is, joined.width_is);
      }

      all_lanes : (P : ℕ × List O → Type 0) → P (main.number, main.mine) → All P main.ended → All P new → All P ((main.number, main.mine) ∷ (main.ended ++ new))
      all_lanes P first ended more = All-cons P (main.number, main.mine) (main.ended ++ new) first (All-append P main.ended new ended more)

      all_mixes : (journal : List (Entry O)) → CouldClose after journal → Mixes journal ((main.number, main.mine) ∷ (main.ended ++ new))
      all_mixes journal whole = subst (Mixes journal) (λ i. (joined.number_is i, joined.mine_is i) ∷ ended_are i) whole.mixes

      each_ended : (journal : List (Entry O)) → Mixes journal ((main.number, main.mine) ∷ (main.ended ++ new)) → All (λ lane. calls_of lane.0 journal ≡ lane.1) main.ended
      each_ended journal mixes = all_left (λ lane. calls_of lane.0 journal ≡ lane.1) main.ended new (All-tail (λ lane. calls_of lane.0 journal ≡ lane.1) (main.number, main.mine) (main.ended ++ new) mixes.each)

      each_new : (journal : List (Entry O)) → Mixes journal ((main.number, main.mine) ∷ (main.ended ++ new)) → All (λ lane. calls_of lane.0 journal ≡ lane.1) new
      each_new journal mixes = all_right (λ lane. calls_of lane.0 journal ≡ lane.1) main.ended new (All-tail (λ lane. calls_of lane.0 journal ≡ lane.1) (main.number, main.mine) (main.ended ++ new) mixes.each)

      -- A lane of the block has no call in what was known before it.
      no_new : (journal old : List (Entry O)) → Mixes journal ((main.number, main.mine) ∷ (main.ended ++ new)) → IsPrefix old journal → (IsPrefix old main.seen ⊎ Contains main.olds old)
          → All (λ lane. calls_of lane.0 old ≡ []) new
      no_new journal old mixes pre known = All-map (λ (lane : ℕ × List O). calls_of lane.0 old ≡ []) (λ lane. (lane.0, ops_asked lane.1)) lanes (λ k d within.
          let each = all_of_map (λ lane. calls_of lane.0 journal ≡ lane.1) (λ lane. (lane.0, ops_asked lane.1)) lanes (each_new journal mixes) k d within in
          ⊎_elim
          (λ none. no_call_before (get_or lanes k d).0 old pre.0 (ap (calls_of (get_or lanes k d).0) pre.1 ∙ each ∙ ap ops_asked none))
          (λ none. none)
          (lanes_fresh main lanes afters are k d within old known))

      -- So what was known before it is a beginning of the front in which none of them calls.
      old_low : (journal old : List (Entry O)) → Mixes journal ((main.number, main.mine) ∷ (main.ended ++ new)) → IsPrefix old journal → (IsPrefix old main.seen ⊎ Contains main.olds old)
          → IsPrefix old (low_front main.children journal)
      old_low journal old mixes pre known = low_prefix main.children old journal (λ n past.
          none_of journal old ((main.number, main.mine) ∷ (main.ended ++ new)) n mixes (λ none. no_call_before n old pre.0 (ap (calls_of n) pre.1 ∙ none))
          (all_lanes (λ lane. lane.0 ≡ n → calls_of n old ≡ [])
          (λ same. absurd (omega (arith, same, past, is.number_is)))
          (λ k d within same. absurd (omega (arith, same, past, (is.ended k d within).given)))
          (λ k d within same. subst (λ m. calls_of m old ≡ []) same (no_new journal old mixes pre known k d within)))) pre

      -- The calls of the main seat and of the lanes that were joined before are in that front.
      main_full : (journal : List (Entry O)) → Mixes journal ((main.number, main.mine) ∷ (main.ended ++ new)) → IsPrefix main.seen journal → IsFull main.number main.mine (low_front main.children journal) (high_rest main.children journal)
      main_full journal mixes pre =
          let low = old_low journal main.seen mixes pre (inl ([], append-nil main.seen)) in
          full_front main.number main.mine (low_front main.children journal) (high_rest main.children journal)
          (ap (calls_of main.number) (sym (cut_at main.children journal)) ∙ All-head (λ lane. calls_of lane.0 journal ≡ lane.1) (main.number, main.mine) (main.ended ++ new) mixes.each)
          (omega (arith, is.own, more_calls main.number main.seen (low_front main.children journal) low))

      ended_full : (journal : List (Entry O)) → Mixes journal ((main.number, main.mine) ∷ (main.ended ++ new)) → All (λ old. IsPrefix old journal) main.olds
          → All (λ lane. IsFull lane.0 lane.1 (low_front main.children journal) (high_rest main.children journal)) main.ended
      ended_full journal mixes olds k d within =
          let lane = get_or main.ended k d in
          let e = is.ended k d within in
          let low = old_low journal e.known mixes (All-contains (λ old. IsPrefix old journal) main.olds e.known olds e.among) (inr e.among) in
          full_front lane.0 lane.1 (low_front main.children journal) (high_rest main.children journal)
          (ap (calls_of lane.0) (sym (cut_at main.children journal)) ∙ each_ended journal mixes k d within)
          (omega (arith, e.all, more_calls lane.0 e.known (low_front main.children journal) low))

      front_mixes : (journal : List (Entry O)) → Mixes journal ((main.number, main.mine) ∷ (main.ended ++ new)) → IsPrefix main.seen journal → All (λ old. IsPrefix old journal) main.olds
          → Mixes (low_front main.children journal) ((main.number, main.mine) ∷ main.ended)
      front_mixes journal mixes pre olds =
          let front = low_front main.children journal in
          let rest = high_rest main.children journal in
          let among = number_among ((main.number, main.mine) ∷ main.ended) in
          record {
            each = All-cons (λ lane. calls_of lane.0 front ≡ lane.1) (main.number, main.mine) main.ended (main_full journal mixes pre).all (λ k d within. (ended_full journal mixes olds k d within).all);
            others = λ n apart. none_of journal front ((main.number, main.mine) ∷ (main.ended ++ new)) n mixes
                (λ none. no_call_before n front rest (ap (calls_of n) (sym (cut_at main.children journal)) ∙ none))
                (all_lanes (λ lane. lane.0 ≡ n → calls_of n front ≡ [])
                (λ same. absurd (apart (subst (Contains (main.number ∷ map (λ lane. lane.0) main.ended)) same (All-head (λ lane. Contains (main.number ∷ map (λ l. l.0) main.ended) lane.0) (main.number, main.mine) main.ended among))))
                (λ k d within same. absurd (apart (subst (Contains (main.number ∷ map (λ lane. lane.0) main.ended)) same
                (All-tail (λ lane. Contains (main.number ∷ map (λ l. l.0) main.ended) lane.0) (main.number, main.mine) main.ended among k d within))))
                (λ k d within same. low_calls main.children n journal (omega (arith, same, (new_numbers k d within).0))));
          }

      block_mixes : (journal : List (Entry O)) → Mixes journal ((main.number, main.mine) ∷ (main.ended ++ new)) → IsPrefix main.seen journal → All (λ old. IsPrefix old journal) main.olds
          → Mixes (high_rest main.children journal) new
      block_mixes journal mixes pre olds =
          let front = low_front main.children journal in
          let rest = high_rest main.children journal in
          let among = number_among new in
          record {
            each = λ k d within.
                let n = (get_or new k d).0 in
                sym (calls_of-append n front rest ∙ ap (λ l. l ++ calls_of n rest) (low_calls main.children n journal (new_numbers k d within).0))
                ∙ ap (calls_of n) (sym (cut_at main.children journal)) ∙ each_new journal mixes k d within;
            others = λ n apart. none_of journal rest ((main.number, main.mine) ∷ (main.ended ++ new)) n mixes
                (λ none. no_call_behind n front rest (ap (calls_of n) (sym (cut_at main.children journal)) ∙ none))
                (all_lanes (λ lane. lane.0 ≡ n → calls_of n rest ≡ [])
                (λ same. subst (λ m. calls_of m rest ≡ []) same (main_full journal mixes pre).none)
                (λ k d within same. subst (λ m. calls_of m rest ≡ []) same (ended_full journal mixes olds k d within).none)
                (λ k d within same. absurd (apart (subst (Contains (map (λ lane. lane.0) new)) same (among k d within)))));
          }

      -- So their calls come after that front.
      past_front : (journal : List (Entry O)) (n : ℕ) → main.children < n → BlockTold answer main.start journal lanes → All (λ (call : Call O R). length (low_front main.children journal) ≤ call.told.place) (calls_in_block n lanes)
      past_front journal n past told k d within =
          let call = get_or (calls_in_block n lanes) k d in
          behind_front n call.op (low_front main.children journal) (high_rest main.children journal) call.told.place (low_calls main.children n journal past)
          (subst (λ j. slice_get j call.told.place ≡ Some (entry n call.op)) (cut_at main.children journal) (told_in_block answer main.start journal n lanes told k d within).stands)

      rise_past : (journal : List (Entry O)) → BlockTold answer main.start journal lanes → (n : ℕ) (b : Bool) → leb n main.children ≡ b → Rise (length (low_front main.children journal)) (calls_in_block n lanes)
      rise_past journal told n true low =
          let most = leb-true n main.children low in
          let none : calls_in_block n lanes ≡ [] = none_in_block n lanes (λ k d within. let given = (numbers k d within).0 in omega (arith, most, given)) in
          rise_none (length (low_front main.children journal)) (calls_in_block n lanes) none
      rise_past journal told n false high =
          rise_from (length main.seen) (length (low_front main.children journal)) (calls_in_block n lanes) (past_front journal n (leb-false n main.children high) told) (rising n)

      trails : (journal : List (Entry O)) → CouldClose after journal → Trails answer main (lanes ∷ []) journal
      trails journal whole =
          let mixes = all_mixes journal whole in
          let pre : IsPrefix main.seen journal = subst (λ l. IsPrefix l journal) joined.seen_is whole.seen in
          let all_olds : All (λ old. IsPrefix old journal) (main.olds ++ map (λ (s : Seated S O). s.seen) afters) = subst (All (λ old. IsPrefix old journal)) joined.olds_are whole.olds in
          let olds = all_left (λ old. IsPrefix old journal) main.olds (map (λ (s : Seated S O). s.seen) afters) all_olds in
          let seens = all_of_map (λ old. IsPrefix old journal) (λ (s : Seated S O). s.seen) afters (all_right (λ old. IsPrefix old journal) main.olds (map (λ (s : Seated S O). s.seen) afters) all_olds) in
          record {
            before = low_front main.children journal;
            rest = high_rest main.children journal;
            split = cut_at main.children journal;
            whole = record {
              seen = old_low journal main.seen mixes pre (inl ([], append-nil main.seen));
              olds = All-weaker (Contains main.olds) (λ old. IsPrefix old (low_front main.children journal))
                  (λ old among. old_low journal old mixes (All-contains (λ o. IsPrefix o journal) main.olds old olds among) (inr among)) main.olds (All-contains_itself main.olds);
              mixes = front_mixes journal mixes pre olds;
            };
            in_order = one_follows lanes (high_rest main.children journal) (block_mixes journal mixes pre olds);
            told = All-cons (BlockTold answer main.start journal) lanes [] (lanes_told main journal lanes afters are seens) (All-nil (BlockTold answer main.start journal));
            rising = λ n. rise_of_block (length (low_front main.children journal)) lanes n (rise_past journal (lanes_told main journal lanes afters are seens) n (leb n main.children) refl);
          }
