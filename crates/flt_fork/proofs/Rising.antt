-- The places of the calls of a lane rise: of calls after others, and of blocks after others.
use Rattle.std.proofs.Common.{◌≡◌, ℕ, ◌<◌, ◌≤◌, ◌+◌, Bool, true, false, cond, eqb, eqb-true, ne_eqb, List, [], ◌∷◌, ◌++◌, All, length, get_or, arith, refl, sym, ap, subst, ◌∙◌}
use Rattle.std.proofs.lemmas.List.{append-nil, append_assoc}
use Rattle.std.proofs.lemmas.Option.{slice_get_within}
use Rattle.std.proofs.lemmas.List.Elements.{All-nil, All-append, All-head, All-tail}
use Rattle.flt_turn.specs.declared.vault.Entry.{Entry}
use Rattle.flt_fork.specs.Mixing.{Call, Block, IsToldInPlace, BlockTold, Rise, calls_in_block, calls_in_lane}

module _ {O R : Type 0} where
  -- ---- calls

  -- From a lower place on.
  pub rise_lower : (low bound : ℕ) (calls : List (Call O R)) → bound ≤ low → Rise low calls → Rise bound calls
  unfolding Rise
  rise_lower low bound [] below rising = tt
  rise_lower low bound (call ∷ calls) below rising = (omega (arith, below, rising.0), rising.1)

  -- From a place on, before which none of them is.
  pub rise_from : (low bound : ℕ) (calls : List (Call O R)) → All (λ call. bound ≤ call.told.place) calls → Rise low calls → Rise bound calls
  unfolding Rise
  rise_from low bound [] past rising = tt
  rise_from low bound (call ∷ calls) past rising = (All-head (λ (c : Call O R). bound ≤ c.told.place) call calls past, rising.1)

  pub rise_append : (low mid : ℕ) (calls more : List (Call O R)) → low ≤ mid → All (λ call. call.told.place < mid) calls → Rise low calls → Rise mid more → Rise low (calls ++ more)
  unfolding Rise
  rise_append low mid [] more below within first second = rise_lower mid low more below second
  rise_append low mid (call ∷ calls) more below within first second =
      let place : call.told.place < mid = All-head (λ (c : Call O R). c.told.place < mid) call calls within in
      (first.0, rise_append (call.told.place + 1) mid calls more (omega (arith, place)) (All-tail (λ (c : Call O R). c.told.place < mid) call calls within) first.1 second)

  pub rise_none : (low : ℕ) (calls : List (Call O R)) → calls ≡ [] → Rise low calls
  unfolding Rise
  rise_none low calls none = subst (Rise low) (sym none) tt

  pub rise_one : (low : ℕ) (call : Call O R) → low ≤ call.told.place → Rise low (call ∷ [])
  unfolding Rise
  rise_one low call below = (below, tt)

  -- ---- the calls of a lane

  -- A number below those of all lanes of a block.
  pub none_in_block : (number : ℕ) (lanes : Block O R) → All (λ lane. number < lane.0) lanes → calls_in_block number lanes ≡ []
  none_in_block number [] past = refl
  none_in_block number (lane ∷ lanes) past =
      let first : number < lane.0 = All-head (λ (l : ℕ × List (Call O R)). number < l.0) lane lanes past in
      rw (ne_eqb lane.0 number (λ same. absurd (omega (arith, first, same)))) (none_in_block number lanes (All-tail (λ (l : ℕ × List (Call O R)). number < l.0) lane lanes past))

  lane_append : (number : ℕ) (blocks more : List (Block O R)) → calls_in_lane number (blocks ++ more) ≡ calls_in_lane number blocks ++ calls_in_lane number more
  lane_append number [] more = refl
  lane_append number (lanes ∷ blocks) more =
      ap (λ l. calls_in_block number lanes ++ l) (lane_append number blocks more) ∙ sym (append_assoc (calls_in_block number lanes) (calls_in_lane number blocks) (calls_in_lane number more))

  -- So it is in a block, where each lane has a number of its own.
  pub rise_block : (low number : ℕ) (calls : List (Call O R)) (lanes : Block O R) → All (λ lane. number < lane.0) lanes → Rise low calls → ((n : ℕ) → Rise low (calls_in_block n lanes))
      → (n : ℕ) → Rise low (calls_in_block n ((number, calls) ∷ lanes))
  rise_block low number calls lanes past rising others n = by_test (eqb number n) refl
    where
      by_test : (b : Bool) → eqb number n ≡ b → Rise low (cond b calls [] ++ calls_in_block n lanes)
      by_test true same =
          let none : calls_in_block n lanes ≡ [] = subst (λ m. calls_in_block m lanes ≡ []) (eqb-true number n same) (none_in_block number lanes past) in
          subst (Rise low) (sym (ap (λ l. calls ++ l) none ∙ append-nil calls)) rising
      by_test false apart = others n

  pub rise_of_block : (low : ℕ) (lanes : Block O R) (n : ℕ) → Rise low (calls_in_block n lanes) → Rise low (calls_in_lane n (lanes ∷ []))
  rise_of_block low lanes n rising = subst (Rise low) (sym (append-nil (calls_in_block n lanes))) rising

  -- A block of lane 0 alone.
  pub rise_alone : (low : ℕ) (calls : List (Call O R)) → Rise low calls → (n : ℕ) → Rise low (calls_in_lane n (((0, calls) ∷ []) ∷ []))
  rise_alone low calls rising n = by_test (eqb 0 n)
    where
      by_test : (b : Bool) → Rise low ((cond b calls [] ++ []) ++ [])
      by_test true = subst (Rise low) (sym (append-nil (calls ++ []) ∙ append-nil calls)) rising
      by_test false = rise_none low [] refl

  pub alone_rise : (low : ℕ) (calls : List (Call O R)) → Rise low (calls_in_lane 0 (((0, calls) ∷ []) ∷ [])) → Rise low calls
  alone_rise low calls rising = subst (Rise low) (append-nil (calls ++ []) ∙ append-nil calls) rising

-- ---- the calls of blocks that are answered in a journal

module _ {S O R : Type 0} (answer : S → List O → O → R) (start : S) (journal : List (Entry O)) where
  one_told : (number : ℕ) (lane : ℕ × List (Call O R)) (b : Bool) → eqb lane.0 number ≡ b → All (IsToldInPlace answer start journal lane.0) lane.1 → All (IsToldInPlace answer start journal number) (cond b lane.1 [])
  one_told number lane true same told = subst (λ n. All (IsToldInPlace answer start journal n) lane.1) (eqb-true lane.0 number same) told
  one_told number lane false apart told = All-nil (IsToldInPlace answer start journal number)

  pub told_in_block : (number : ℕ) (lanes : Block O R) → BlockTold answer start journal lanes → All (IsToldInPlace answer start journal number) (calls_in_block number lanes)
  told_in_block number [] told = All-nil (IsToldInPlace answer start journal number)
  told_in_block number (lane ∷ lanes) told = All-append (IsToldInPlace answer start journal number) (cond (eqb lane.0 number) lane.1 []) (calls_in_block number lanes)
      (one_told number lane (eqb lane.0 number) refl (All-head (λ (l : ℕ × List (Call O R)). All (IsToldInPlace answer start journal l.0) l.1) lane lanes told))
      (told_in_block number lanes (All-tail (λ (l : ℕ × List (Call O R)). All (IsToldInPlace answer start journal l.0) l.1) lane lanes told))

  told_in_lane : (number : ℕ) (blocks : List (Block O R)) → All (BlockTold answer start journal) blocks → All (IsToldInPlace answer start journal number) (calls_in_lane number blocks)
  told_in_lane number [] told = All-nil (IsToldInPlace answer start journal number)
  told_in_lane number (lanes ∷ blocks) told = All-append (IsToldInPlace answer start journal number) (calls_in_block number lanes) (calls_in_lane number blocks)
      (told_in_block number lanes (All-head (BlockTold answer start journal) lanes blocks told))
      (told_in_lane number blocks (All-tail (BlockTold answer start journal) lanes blocks told))

  -- They are in it.
  pub places_within : (number : ℕ) (calls : List (Call O R)) → All (IsToldInPlace answer start journal number) calls → All (λ call. call.told.place < length journal) calls
  places_within number calls told k d within = slice_get_within journal (get_or calls k d).told.place _ (told k d within).stands

  -- Blocks whose calls come after it.
  pub rise_more : (low : ℕ) (blocks more : List (Block O R)) → low ≤ length journal → All (BlockTold answer start journal) blocks → (number : ℕ) → Rise low (calls_in_lane number blocks)
      → Rise (length journal) (calls_in_lane number more) → Rise low (calls_in_lane number (blocks ++ more))
  rise_more low blocks more below told number first second = subst (Rise low) (sym (lane_append number blocks more))
      (rise_append low (length journal) (calls_in_lane number blocks) (calls_in_lane number more) below
      (places_within number (calls_in_lane number blocks) (told_in_lane number blocks told)) first second)
