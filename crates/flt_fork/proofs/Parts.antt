-- What the calls of the main seat leave of it, and where they are in any journal in which the lock could be closed then.
use Rattle.std.proofs.Common.{◌≡◌, ℕ, zero, suc, ◌≤◌, ◌+◌, List, [], ◌∷◌, ◌++◌, All, length, get_or, arith, refl, sym, ap, subst, ◌∙◌}
use Rattle.std.specs.Prelude.{Contains}
use Rattle.std.proofs.lemmas.List.{append-nil, append_assoc, length-append, map-append}
use Rattle.std.proofs.lemmas.List.Elements.{All-contains, All-nil, All-cons, All-append, All-head}
use mathlib.Core.List.{IsPrefix}
use Rattle.flt_turn.specs.declared.vault.Entry.{Entry}
use Rattle.flt_turn.specs.Call.{IsCall}
use Rattle.flt_turn.specs.Journal.{entry, calls_of}
use Rattle.flt_turn.specs.Seats.{Seated, Extends}
use Rattle.flt_turn.proofs.Journals.{calls_of-append, own_call, other_call, calls_of_other, prefix_longer}
use Rattle.flt_fork.specs.Mixing.{Call, ops_asked, Mixes, Block, HasInOrder, asked_of, IsToldInPlace, BlockTold}
use Rattle.flt_fork.specs.Chain.{Chain}
use Rattle.flt_fork.specs.Lived.{IsEnded, IsMain, CouldClose, Trails, HasLived}
use Rattle.flt_fork.proofs.Journals.{more_calls, none_left, no_call_before}
use Rattle.flt_fork.proofs.Chains.{call_own, call_told}
use Rattle.flt_fork.proofs.Mixings.{calls_longer, blocks_longer, follow_more, follows_one, one_follows}
use Rattle.flt_fork.proofs.Rising.{alone_rise, places_within, rise_alone, rise_append, rise_more, rise_none, rise_one}

-- ---- the calls of blocks

before_most : {X : Type 0} (before rest journal : List X) → journal ≡ before ++ rest → length before ≤ length journal
before_most before rest journal split = let all = ap length split ∙ length-append before rest in omega (arith, all)

nothing_mixes : {O : Type 0} (number : ℕ) → Mixes {O = O} [] ((number, []) ∷ [])
nothing_mixes {O} number = record {
  each = All-cons (λ (lane : ℕ × List O). calls_of lane.0 [] ≡ lane.1) (number, []) [] refl (All-nil (λ (lane : ℕ × List O). calls_of lane.0 [] ≡ lane.1));
  others = λ n apart. refl;
}

module _ {O R : Type 0} where
  -- The calls of one lane, one after the other.
  alone_more : (number : ℕ) (xs ys : List (Call O R)) (first second : List (Entry O)) → Mixes first (asked_of ((number, xs) ∷ [])) → Mixes second (asked_of ((number, ys) ∷ []))
      → Mixes (first ++ second) (asked_of ((number, xs ++ ys) ∷ []))
  alone_more number xs ys first second a b =
      let IsAsked : (ℕ × List O) → Type 0 = λ lane. calls_of lane.0 (first ++ second) ≡ lane.1 in
      let front : calls_of number first ≡ ops_asked xs = All-head (λ lane. calls_of lane.0 first ≡ lane.1) (number, ops_asked xs) [] a.each in
      let back : calls_of number second ≡ ops_asked ys = All-head (λ lane. calls_of lane.0 second ≡ lane.1) (number, ops_asked ys) [] b.each in
      record {
        each = All-cons IsAsked (number, ops_asked (xs ++ ys)) []
            (calls_of-append number first second ∙ (λ i. front i ++ back i) ∙ sym (map-append (λ (c : Call O R). c.op) xs ys)) (All-nil IsAsked);
        others = λ n apart. calls_of-append n first second ∙ (λ i. a.others n apart i ++ b.others n apart i);
      }

module _ {S O R : Type 0} (admits : S → O → Type 0) (answer : S → List O → O → R) where
  -- ---- no call, and blocks after others

  pub lived_none : (main : Seated S O) → IsMain main → HasLived {R = R} answer main main 0 []
  unfolding HasInOrder
  lived_none main is = record {
    main_after = is;
    start_is = refl;
    lock_is = refl;
    children_is = omega arith;
    trails = λ journal whole. record { before = journal; rest = []; split = sym (append-nil journal); whole = whole; in_order = refl; told = All-nil (BlockTold answer main.start journal); rising = λ number. rise_none (length journal) [] refl };
  }

  pub lived_more : (main mid after : Seated S O) (seats more_seats : ℕ) (blocks more : List (Block O R)) → HasLived answer main mid seats blocks → HasLived answer mid after more_seats more
      → HasLived answer main after (seats + more_seats) (blocks ++ more)
  lived_more main mid after seats more_seats blocks more lived is = record {
    main_after = is.main_after;
    start_is = is.start_is ∙ lived.start_is;
    lock_is = is.lock_is ∙ lived.lock_is;
    children_is = omega (arith, is.children_is, lived.children_is);
    trails = λ journal whole.
        let last = is.trails journal whole in
        let trail = lived.trails last.before last.whole in
        record {
          before = trail.before;
          rest = trail.rest ++ last.rest;
          split = last.split ∙ ap (λ l. l ++ last.rest) trail.split ∙ append_assoc trail.before trail.rest last.rest;
          whole = trail.whole;
          in_order = follow_more blocks more trail.rest last.rest trail.in_order last.in_order;
          told = All-append (BlockTold answer main.start journal) blocks more
              (blocks_longer answer main.start last.before journal blocks (last.rest, sym last.split) trail.told)
              (subst (λ s. All (BlockTold answer s journal) more) lived.start_is last.told);
          rising = λ number. rise_more answer main.start last.before (length trail.before) blocks more (before_most trail.before trail.rest last.before trail.split) trail.told number (trail.rising number) (last.rising number);
        };
  }

  -- ---- a step by itself

  abbrev LivesAlone : Seated S O → List (Call O R) → Seated S O → Type 0
  LivesAlone main calls after = HasLived answer main after 0 (((0, calls) ∷ []) ∷ [])

  alone_told : (start : S) (journal : List (Entry O)) (calls : List (Call O R)) → All (IsToldInPlace answer start journal 0) calls → All (BlockTold answer start journal) (((0, calls) ∷ []) ∷ [])
  alone_told start journal calls told = All-cons (BlockTold answer start journal) ((0, calls) ∷ []) []
      (All-cons (λ (lane : ℕ × List (Call O R)). All (IsToldInPlace answer start journal lane.0) lane.1) (0, calls) [] told (All-nil (λ (lane : ℕ × List (Call O R)). All (IsToldInPlace answer start journal lane.0) lane.1)))
      (All-nil (BlockTold answer start journal))

  told_alone : (start : S) (journal : List (Entry O)) (calls : List (Call O R)) → All (BlockTold answer start journal) (((0, calls) ∷ []) ∷ []) → All (IsToldInPlace answer start journal 0) calls
  told_alone start journal calls told = All-head (λ (lane : ℕ × List (Call O R)). All (IsToldInPlace answer start journal lane.0) lane.1) (0, calls) []
      (All-head (BlockTold answer start journal) ((0, calls) ∷ []) [] told)

  no_call : (main : Seated S O) → IsMain main → LivesAlone main [] main
  no_call main is = record {
    main_after = is;
    start_is = refl;
    lock_is = refl;
    children_is = omega arith;
    trails = λ journal whole. record {
      before = journal;
      rest = [];
      split = sym (append-nil journal);
      whole = whole;
      in_order = one_follows ((0, []) ∷ []) [] (nothing_mixes 0);
      told = alone_told main.start journal [] (All-nil (IsToldInPlace answer main.start journal 0));
      rising = rise_alone (length journal) [] (rise_none (length journal) [] refl);
    };
  }

  more_alone : (main mid after : Seated S O) (xs ys : List (Call O R)) → LivesAlone main xs mid → LivesAlone mid ys after → LivesAlone main (xs ++ ys) after
  more_alone main mid after xs ys lived is = record {
    main_after = is.main_after;
    start_is = is.start_is ∙ lived.start_is;
    lock_is = is.lock_is ∙ lived.lock_is;
    children_is = omega (arith, is.children_is, lived.children_is);
    trails = λ journal whole.
        let last = is.trails journal whole in
        let trail = lived.trails last.before last.whole in
        record {
          before = trail.before;
          rest = trail.rest ++ last.rest;
          split = last.split ∙ ap (λ l. l ++ last.rest) trail.split ∙ append_assoc trail.before trail.rest last.rest;
          whole = trail.whole;
          in_order = one_follows ((0, xs ++ ys) ∷ []) (trail.rest ++ last.rest)
              (alone_more 0 xs ys trail.rest last.rest (follows_one ((0, xs) ∷ []) trail.rest trail.in_order) (follows_one ((0, ys) ∷ []) last.rest last.in_order));
          told = alone_told main.start journal (xs ++ ys) (All-append (IsToldInPlace answer main.start journal 0) xs ys
              (calls_longer answer main.start last.before journal 0 xs (last.rest, sym last.split) (told_alone main.start last.before xs trail.told))
              (subst (λ s. All (IsToldInPlace answer s journal 0) ys) lived.start_is (told_alone mid.start journal ys last.told)));
          rising = rise_alone (length trail.before) (xs ++ ys) (rise_append (length trail.before) (length last.before) xs ys (before_most trail.before trail.rest last.before trail.split)
              (places_within answer main.start last.before 0 xs (told_alone main.start last.before xs trail.told))
              (alone_rise (length trail.before) xs (trail.rising 0)) (alone_rise (length last.before) ys (last.rising 0)));
        };
  }

  one_call_alone : (main after : Seated S O) (call : Call O R) → IsMain main → IsCall admits answer main after call.op call.told → LivesAlone main (call ∷ []) after
  one_call_alone main after call is makes = record {
    main_after = main_after;
    start_is = ext.rest.1;
    lock_is = ext.lock;
    children_is = omega (arith, ext.rest.2);
    trails = trails;
  }
    where
      op : O
      op = call.op

      ext : Extends main after op call.told.place
      ext = makes.place

      front : List (Entry O)
      front = main.seen ++ ext.between

      number_is : after.number ≡ main.number
      number_is = ext.rest.0

      own_calls : calls_of after.number after.seen ≡ after.mine
      own_calls = call_own admits answer main after call makes

      ended_after : All (IsEnded after) main.ended
      ended_after k d within = let e = is.ended k d within in record {
        some = e.some;
        given = omega (arith, e.given, ext.rest.2);
        known = e.known;
        among = subst (λ l. Contains l e.known) (sym ext.rest.3) e.among;
        all = e.all;
      }

      main_after : IsMain after
      main_after = record {
        number_is = number_is ∙ is.number_is;
        own = omega (arith, ap length own_calls);
        ended = subst (All (IsEnded after)) (sym ext.rest.4) ended_after;
        joined = ap length ext.rest.4 ∙ is.joined ∙ sym ext.rest.2;
      }

      first : Entry O
      first = entry 0 op

      front_is : after.seen ≡ front ++ first ∷ []
      front_is = ext.seen ∙ ap (λ n. front ++ entry n op ∷ []) is.number_is

      lanes_are : (after.number, after.mine) ∷ after.ended ≡ (main.number, main.mine ++ op ∷ []) ∷ main.ended
      lanes_are = λ i. (number_is i, ext.mine i) ∷ ext.rest.4 i

      olds_seen : All (λ old. IsPrefix old after.seen) after.olds
      olds_seen = subst (All (λ old. IsPrefix old after.seen)) (sym ext.rest.3) (λ k d within. subst (IsPrefix (get_or main.olds k d)) (sym front_is) (prefix_longer (get_or main.olds k d) front (first ∷ []) (ext.olds k d within)))

      enough : All (λ lane. length lane.1 ≤ length (calls_of lane.0 after.seen)) ((after.number, after.mine) ∷ after.ended)
      enough = All-cons (λ lane. length lane.1 ≤ length (calls_of lane.0 after.seen)) (after.number, after.mine) after.ended main_after.own
          (λ k d within. let e = main_after.ended k d within in
          let more = more_calls (get_or after.ended k d).0 e.known after.seen (All-contains (λ old. IsPrefix old after.seen) after.olds e.known olds_seen e.among) in
          omega (arith, e.all, more))

      nothing_after : (journal : List (Entry O)) (whole : CouldClose after journal) → whole.seen.0 ≡ []
      nothing_after journal whole = none_left after.seen whole.seen.0 ((after.number, after.mine) ∷ after.ended)
          (subst (λ j. Mixes j ((after.number, after.mine) ∷ after.ended)) (sym whole.seen.1) whole.mixes) enough

      seen_is : (journal : List (Entry O)) → CouldClose after journal → after.seen ≡ journal
      seen_is journal whole = sym (append-nil after.seen) ∙ ap (λ l. after.seen ++ l) (sym (nothing_after journal whole)) ∙ whole.seen.1

      before_mixes : Mixes (front ++ first ∷ []) ((main.number, main.mine ++ op ∷ []) ∷ main.ended) → Mixes front ((main.number, main.mine) ∷ main.ended)
      before_mixes m = record {
        each = All-cons (λ lane. calls_of lane.0 front ≡ lane.1) (main.number, main.mine) main.ended ext.own
            (λ k d within. sym (calls_of_other (get_or main.ended k d).0 0 op front (λ same. absurd (omega (arith, same, (is.ended k d within).some)))) ∙ m.each (suc k) d (omega (arith, within)));
        others = λ n apart. no_call_before n front (first ∷ []) (m.others n apart);
      }

      block_mixes : Mixes (first ∷ []) ((0, op ∷ []) ∷ [])
      block_mixes = record {
        each = All-cons (λ lane. calls_of lane.0 (first ∷ []) ≡ lane.1) (0, op ∷ []) [] (own_call 0 op) (All-nil (λ lane. calls_of lane.0 (first ∷ []) ≡ lane.1));
        others = λ n apart. other_call n 0 op (λ same. apart (zero, omega arith, same));
      }

      trails : (journal : List (Entry O)) → CouldClose after journal → Trails answer main (((0, call ∷ []) ∷ []) ∷ []) journal
      trails journal whole =
          let same = seen_is journal whole in
          let journal_is : journal ≡ front ++ first ∷ [] = sym same ∙ front_is in
          let told : IsToldInPlace answer main.start journal 0 call = subst (λ n. IsToldInPlace answer main.start journal n call) is.number_is
          (subst (λ j. IsToldInPlace answer main.start j main.number call) same (call_told admits answer main after call makes)) in
          record {
            before = front;
            rest = first ∷ [];
            split = journal_is;
            whole = record {
              seen = (ext.between, refl);
              olds = ext.olds;
              mixes = before_mixes (subst (λ j. Mixes j ((main.number, main.mine ++ op ∷ []) ∷ main.ended)) journal_is (subst (Mixes journal) lanes_are whole.mixes));
            };
            in_order = one_follows ((0, call ∷ []) ∷ []) (first ∷ []) block_mixes;
            told = alone_told main.start journal (call ∷ []) (All-cons (IsToldInPlace answer main.start journal 0) call [] told (All-nil (IsToldInPlace answer main.start journal 0)));
            rising = rise_alone (length front) (call ∷ []) (rise_one (length front) call (omega (arith, ext.place_is)));
          }

  -- Calls of the main seat are those of lane 0, in a block of their own.
  pub chain_part : (main : Seated S O) (calls : List (Call O R)) (after : Seated S O) → IsMain main → Chain admits answer main calls after → LivesAlone main calls after
  unfolding Chain
  chain_part main [] after is same = subst (LivesAlone main []) (sym same) (no_call main is)
  chain_part main (call ∷ calls) after is chain =
      let first : LivesAlone main (call ∷ []) chain.0 = one_call_alone main chain.0 call is chain.1 in
      more_alone main chain.0 after (call ∷ []) calls first (chain_part chain.0 calls after first.main_after chain.2)
