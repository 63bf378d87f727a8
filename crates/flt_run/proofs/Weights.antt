-- How many calls of some kind a journal has: no more than the deeds of the parts make, of which it has the calls. Stated of any machine.
use Rattle.std.proofs.Common.{◌≡◌, inl, inr, ℕ, zero, suc, ◌<◌, ◌≤◌, ◌+◌, Bool, true, false, cond, List, [], ◌∷◌, ◌++◌, All, length, map, get_or, reverse, refl, ap, eq-eqb, sym, arith, ◌∙◌}
use Rattle.std.specs.Prelude.{Contains, ◌==◌}
use Rattle.std.proofs.lemmas.Bool.{true≢false}
use Rattle.std.proofs.lemmas.List.{reverse-append, take_at, drop_at}
use Rattle.std.proofs.lemmas.List.Elements.{All-head, All-tail}
use Rattle.flt_step.specs.declared.step.Step.{Step}
use Rattle.flt_step.specs.Part.{PartOf}
use Rattle.flt_step.specs.Step.{is_store_step}
use Rattle.flt_turn.specs.declared.vault.Entry.{Entry}
use Rattle.flt_turn.specs.Journal.{calls_of}
use Rattle.flt_life_model.specs.Answers.{Told}
use Rattle.flt_fork.specs.Making.{AreMadeBy, LanesMake}
use Rattle.flt_life_model.specs.Making.{PartMakes, PartsMake}
use Rattle.flt_fork.specs.Mixing.{Block, Call, HasInOrder, Mixes, asked_of, ops_asked}
use Rattle.flt_life_model.specs.Ordered.{Deed, block_deeds, deed_if, deeds_in, lane_deeds}
use Rattle.flt_life_model.specs.Parts.{width}
use Rattle.flt_fork.proofs.Journals.{head_call, no_call_behind}
use Rattle.flt_lane.proofs.LaneDeeds.{lanes_told_count}

module _ {O : Type 0} (weight : O → ℕ) where
  -- Of a journal, of calls, and of the calls of lanes.
  abbrev pub weigh : List (Entry O) → ℕ
  weigh [] = 0
  weigh (e ∷ journal) = weight e.op + weigh journal

  abbrev pub weigh_ops : List O → ℕ
  weigh_ops [] = 0
  weigh_ops (op ∷ ops) = weight op + weigh_ops ops

  abbrev pub weigh_lanes : List (ℕ × List O) → ℕ
  weigh_lanes [] = 0
  weigh_lanes (lane ∷ lanes) = weigh_ops lane.1 + weigh_lanes lanes

  weigh-append : (journal more : List (Entry O)) → weigh (journal ++ more) ≡ weigh journal + weigh more
  weigh-append [] more = omega arith
  weigh-append (e ∷ journal) more = let rest = weigh-append journal more in omega (arith, rest)

  pub ops-append : (ops more : List O) → weigh_ops (ops ++ more) ≡ weigh_ops ops + weigh_ops more
  ops-append [] more = omega arith
  ops-append (op ∷ ops) more = let rest = ops-append ops more in omega (arith, rest)

  -- ---- an entry more

  abbrev weigh_by : List ℕ → List (Entry O) → ℕ
  weigh_by [] journal = 0
  weigh_by (n ∷ numbers) journal = weigh_ops (calls_of n journal) + weigh_by numbers journal

  abbrev is_in : ℕ → List ℕ → Bool
  is_in n [] = false
  is_in n (m ∷ numbers) = cond (n == m) true (is_in n numbers)

  one_more : (n : ℕ) (e : Entry O) (journal : List (Entry O)) → (b : Bool) → (e.lane == n) ≡ b → weigh_ops (calls_of n (e ∷ journal)) ≡ cond b (weight e.op) 0 + weigh_ops (calls_of n journal)
  one_more n e journal true is = rw is refl
  one_more n e journal false is = rw is (omega arith)

  no_fewer : (numbers : List ℕ) (e : Entry O) (journal : List (Entry O)) → weigh_by numbers journal ≤ weigh_by numbers (e ∷ journal)
  no_fewer [] e journal = omega arith
  no_fewer (n ∷ numbers) e journal = let rest = no_fewer numbers e journal in let first = one_more n e journal (e.lane == n) refl in omega (arith, rest, first)

  entry_by : (n : ℕ) (numbers : List ℕ) (e : Entry O) (journal : List (Entry O)) (b : Bool) → (e.lane == n) ≡ b → cond b true (is_in e.lane numbers) ≡ true
      → (is_in e.lane numbers ≡ true → weight e.op + weigh_by numbers journal ≤ weigh_by numbers (e ∷ journal)) → weight e.op + weigh_by (n ∷ numbers) journal ≤ weigh_by (n ∷ numbers) (e ∷ journal)
  entry_by n numbers e journal true is among rest = let few = no_fewer numbers e journal in let first = one_more n e journal true is in omega (arith, few, first)
  entry_by n numbers e journal false is among rest = let more = rest among in let first = one_more n e journal false is in omega (arith, more, first)

  with_entry : (numbers : List ℕ) (e : Entry O) (journal : List (Entry O)) → is_in e.lane numbers ≡ true → weight e.op + weigh_by numbers journal ≤ weigh_by numbers (e ∷ journal)
  with_entry [] e journal among = absurd (true≢false (sym among))
  with_entry (n ∷ numbers) e journal among = entry_by n numbers e journal (e.lane == n) refl among (with_entry numbers e journal)

  differs : (b c : Bool) → cond b true c ≡ false → b ≡ false
  differs true c none = absurd (true≢false none)
  differs false c none = refl

  rest_none : (b c : Bool) → cond b true c ≡ false → c ≡ false
  rest_none true c none = absurd (true≢false none)
  rest_none false c none = none

  not_there : (n m : ℕ) (numbers : List ℕ) → (n == m) ≡ false → ¬ Contains numbers n → (k : ℕ) → k < length (m ∷ numbers) → get_or (m ∷ numbers) k n ≡ n → ⊥
  not_there n m numbers apart rest zero within is = true≢false (sym (eq-eqb n m (sym is)) ∙ apart)
  not_there n m numbers apart rest (suc k) within is = rest (k, omega (arith, within), is)

  not_in : (n : ℕ) (numbers : List ℕ) → is_in n numbers ≡ false → ¬ Contains numbers n
  not_in n [] none among = absurd (let within = among.1 in omega (arith, within))
  not_in n (m ∷ numbers) none among =
      not_there n m numbers (differs (n == m) (is_in n numbers) none) (not_in n numbers (rest_none (n == m) (is_in n numbers) none)) among.0 among.1 among.2

  entry_among : (numbers : List ℕ) (e : Entry O) (journal : List (Entry O)) (b : Bool) → is_in e.lane numbers ≡ b → ((n : ℕ) → ¬ Contains numbers n → calls_of n (e ∷ journal) ≡ []) → weigh journal ≤ weigh_by numbers journal
      → weigh (e ∷ journal) ≤ weigh_by numbers (e ∷ journal)
  entry_among numbers e journal true is others rest = let more = with_entry numbers e journal is in omega (arith, more, rest)
  entry_among numbers e journal false is others rest = let first = head_call e journal in let gone = others e.lane (not_in e.lane numbers is) in absurd (cc)

  by_numbers : (numbers : List ℕ) (journal : List (Entry O)) → ((n : ℕ) → ¬ Contains numbers n → calls_of n journal ≡ []) → weigh journal ≤ weigh_by numbers journal
  by_numbers numbers [] others = omega arith
  by_numbers numbers (e ∷ journal) others =
      entry_among numbers e journal (is_in e.lane numbers) refl others (by_numbers numbers journal (λ n apart. no_call_behind n (e ∷ []) journal (others n apart)))

  by_lanes : (lanes : List (ℕ × List O)) (journal : List (Entry O)) → All (λ lane. calls_of lane.0 journal ≡ lane.1) lanes → weigh_by (map (λ lane. lane.0) lanes) journal ≡ weigh_lanes lanes
  by_lanes [] journal each = refl
  by_lanes (lane ∷ lanes) journal each =
      let first = ap weigh_ops (All-head (λ (lane : ℕ × List O). calls_of lane.0 journal ≡ lane.1) lane lanes each) in
      let rest = by_lanes lanes journal (All-tail (λ (lane : ℕ × List O). calls_of lane.0 journal ≡ lane.1) lane lanes each) in
      omega (arith, first, rest)

  mixes_most : (journal : List (Entry O)) (lanes : List (ℕ × List O)) → Mixes journal lanes → weigh journal ≤ weigh_lanes lanes
  mixes_most journal lanes mixes =
      let most = by_numbers (map (λ lane. lane.0) lanes) journal mixes.others in
      let same = by_lanes lanes journal mixes.each in
      omega (arith, most, same)

  -- ---- blocks

  abbrev pub weigh_blocks : {R : Type 0} → List (Block O R) → ℕ
  weigh_blocks [] = 0
  weigh_blocks (lanes ∷ blocks) = weigh_lanes (asked_of lanes) + weigh_blocks blocks

  pub follows_most : {R : Type 0} (blocks : List (Block O R)) (journal : List (Entry O)) → HasInOrder blocks journal → weigh journal ≤ weigh_blocks blocks
  unfolding HasInOrder
  follows_most [] journal none = let is = ap weigh none in omega (arith, is)
  follows_most (lanes ∷ blocks) journal follows =
      let sum = ap weigh follows.2 ∙ weigh-append follows.0 follows.1 in
      let first = mixes_most follows.0 (asked_of lanes) follows.3 in
      let rest = follows_most blocks follows.1 follows.4 in
      omega (arith, sum, first, rest)

-- ---- the parts of a life

asked-append : {O R : Type 0} (calls more : List (Call O R)) → ops_asked (calls ++ more) ≡ ops_asked calls ++ ops_asked more
asked-append [] more = refl
asked-append (call ∷ calls) more = ap (λ l. call.op ∷ l) (asked-append calls more)

module _ (amount : Told → ℕ) where
  -- Of deeds.
  abbrev pub amount_of : List Deed → ℕ
  amount_of [] = 0
  amount_of (deed ∷ deeds) = amount deed.1 + amount_of deeds

  amount-append : (deeds more : List Deed) → amount_of (deeds ++ more) ≡ amount_of deeds + amount_of more
  amount-append [] more = omega arith
  amount-append (deed ∷ deeds) more = let rest = amount-append deeds more in omega (arith, rest)

  pub amount_newest : (deeds : List Deed) → amount_of (reverse deeds) ≡ amount_of deeds
  amount_newest [] = refl
  amount_newest (deed ∷ deeds) =
      let sum = ap amount_of (reverse-append (deed ∷ []) deeds) ∙ amount-append (reverse deeds) (deed ∷ []) in
      let rest = amount_newest deeds in
      omega (arith, sum, rest)

  with_one : (b : Bool) (step : Step) (told : Told) (deeds : List Deed) → amount_of (deed_if b step told deeds) ≡ cond b (amount told) 0 + amount_of deeds
  with_one true step told deeds = refl
  with_one false step told deeds = omega arith

module _ {O R : Type 0} (weight : O → ℕ) (MadeBy : Step → Told → List (Call O R) → Type 0) (amount : Told → ℕ)
    (most : (step : Step) (told : Told) (calls : List (Call O R)) → MadeBy step told calls → weigh_ops weight (ops_asked calls) ≤ cond (is_store_step step) (amount told) 0) where
  lane_most : (steps : List Step) (told : List Told) (calls : List (Call O R)) → AreMadeBy MadeBy steps told calls → weigh_ops weight (ops_asked calls) ≤ amount_of amount (lane_deeds steps told)
  unfolding AreMadeBy
  lane_most [] [] calls made = let is = ap (λ l. weigh_ops weight (ops_asked l)) made in omega (arith, is)
  lane_most [] (answer ∷ told) calls made = absurd made
  lane_most (step ∷ steps) [] calls made = absurd made
  lane_most (step ∷ steps) (answer ∷ told) calls made =
      let sum = ap (λ l. weigh_ops weight (ops_asked l)) made.2 ∙ ap (weigh_ops weight) (asked-append made.0 made.1) ∙ ops-append weight (ops_asked made.0) (ops_asked made.1) in
      let first = most step answer made.0 made.3 in
      let rest = lane_most steps told made.1 made.4 in
      let deed = with_one amount (is_store_step step) step answer (lane_deeds steps told) in
      omega (arith, sum, first, rest, deed)

  lanes_most : (number : ℕ) (lanes : List (List Step)) (told : List (List Told)) (made : Block O R) → LanesMake MadeBy number lanes told made → weigh_lanes weight (asked_of made) ≤ amount_of amount (block_deeds lanes told)
  unfolding LanesMake
  lanes_most number [] [] made makes = let is = ap (λ l. weigh_lanes weight (asked_of l)) makes in omega (arith, is)
  lanes_most number [] (answers ∷ told) made makes = absurd makes
  lanes_most number (steps ∷ lanes) [] made makes = absurd makes
  lanes_most number (steps ∷ lanes) (answers ∷ told) made makes =
      let is = ap (λ l. weigh_lanes weight (asked_of l)) makes.2 in
      let first = lane_most steps answers makes.0 makes.3 in
      let rest = lanes_most (number + 1) lanes told makes.1 makes.4 in
      let sum = amount-append amount (lane_deeds steps answers) (block_deeds lanes told) in
      omega (arith, is, first, rest, sum)

  part_most : (number : ℕ) (part : PartOf Step) (parts : List (PartOf Step)) (mine later : List Told) (others more : List (List Told)) (made : Block O R) → PartMakes MadeBy number part mine others made
      → weigh_lanes weight (asked_of made) + amount_of amount (deeds_in parts later more) ≤ amount_of amount (deeds_in (part ∷ parts) (mine ++ later) (others ++ more))
  part_most number (inl step) parts mine later others more made makes =
      let answer = makes.0 in
      let is = ap (λ l. weigh_lanes weight (asked_of l)) makes.4 in
      let first = most step answer makes.1 makes.5 in
      let deed = with_one amount (is_store_step step) step answer (deeds_in parts later more) in
      let all : amount_of amount (deeds_in (inl step ∷ parts) (mine ++ later) (others ++ more)) ≡ amount_of amount (deeds_in (inl step ∷ parts) ((answer ∷ []) ++ later) ([] ++ more)) =
      (λ i. amount_of amount (deeds_in (inl step ∷ parts) (makes.2 i ++ later) (makes.3 i ++ more))) in
      omega (arith, is, first, deed, all)
  part_most number (inr lanes) parts mine later others more made makes =
      let size = lanes_told_count MadeBy number lanes others made makes.1 in
      let first = lanes_most number lanes others made makes.1 in
      let sum = amount-append amount (block_deeds lanes others) (deeds_in parts later more) in
      let all : amount_of amount (deeds_in (inr lanes ∷ parts) (mine ++ later) (others ++ more)) ≡ amount_of amount (block_deeds lanes others ++ deeds_in parts later more) =
      (λ i. amount_of amount (block_deeds lanes (take_at others more (length lanes) size i) ++ deeds_in parts (makes.0 i ++ later) (drop_at others more (length lanes) size i))) in
      omega (arith, first, sum, all)

  pub parts_most : (number : ℕ) (parts : List (PartOf Step)) (own : List Told) (lanes : List (List Told)) (blocks : List (Block O R)) → PartsMake MadeBy number parts own lanes blocks
      → weigh_blocks weight blocks ≤ amount_of amount (deeds_in parts own lanes)
  unfolding PartsMake
  parts_most number [] own lanes blocks makes = let is = ap (weigh_blocks weight) makes.2 in omega (arith, is)
  parts_most number (part ∷ parts) own lanes blocks makes =
      let is = ap (weigh_blocks weight) makes.8 in
      let first = part_most number part parts makes.0 makes.1 makes.2 makes.3 makes.4 makes.9 in
      let rest = parts_most (number + width part) parts makes.1 makes.3 makes.5 makes.10 in
      let all : amount_of amount (deeds_in (part ∷ parts) own lanes) ≡ amount_of amount (deeds_in (part ∷ parts) (makes.0 ++ makes.1) (makes.2 ++ makes.3)) =
      (λ i. amount_of amount (deeds_in (part ∷ parts) (makes.6 i) (makes.7 i))) in
      omega (arith, is, first, rest, all)
