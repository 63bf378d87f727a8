-- The pages of a configuration's own records, and those that an image takes.
use Rattle.std.proofs.Common.{◌≡◌, ℕ, zero, suc, ◌+◌, ◌-◌, ◌*◌, ◌/◌, ◌%◌, ◌<◌, ◌≤◌, ◌==◌, ◌&&◌, ◌++◌, [], ◌∷◌, Bool, true, false, List, length, refl, sym, ◌∙◌, ap, subst, arith, inl, inr, min, zero-add}
use Rattle.std.specs.Prelude.{◌||◌, max, IsTrue, nat_lt, nat_le, if◌then◌else◌, map, flat_map, sum_by}
use Rattle.std.specs.List.{range_with_len}
use Rattle.std.proofs.lemmas.Bool.{cases_lt, and_parts, leb-true, ltb-true, and_right, and_left, or_from, eq-eqb, ne_eqb, le-leb, lt-leb, lt-ltb, le-ltb}
use Rattle.std.proofs.lemmas.List.Sums.{sum_by-append}
use Rattle.flt_flash.specs.Content.{Content}
use Rattle.flt_flash.specs.Blocks.{pages_of, record_pages}
use Rattle.flt_config.specs.declared.config.Config.{Config}
use Rattle.flt_config.specs.Validity.{state_blocks, needed_pages}
use Rattle.flt_store_model.specs.declared.part.Part.{Part}
use Rattle.flt_store_model.specs.declared.part.Part.TheVariants.{States, Entry}
use Rattle.flt_store_model.specs.Layout.{numbers, number_of, both_indices, application_number, part_of_block, has_part, is_used, parts, end_part, later_states_id, later_states_blocks, first_later_event, states_per_block, most_entries, states_blocks}
use Rattle.flt_store_model.specs.Form.{part_length}
use Rattle.flt_store_model.specs.Excess.{is_own_part, is_own_application, own_pages, IsBorne}
use Rattle.flt_store_model.specs.Laws.{IsGiven}
use Rattle.flt_store_model.proofs.Choices.{chosen, not_chosen}
use Rattle.flt_store_model.proofs.Steps.{is_summary, are_states, is_entry, are_later, kind_of}

-- The sum of one more in front.
pub sum_more : {X : Type 0} (f : X → ℕ) (x : X) (xs : List X) → sum_by f (x ∷ xs) ≡ f x + sum_by f xs
sum_more f x xs = sum_by-append f (x ∷ []) xs ∙ ap (λ (n : ℕ). n + sum_by f xs) (zero-add (f x))

-- A weight for each number of a range that is below a bound.
below_sum : (f : ℕ → ℕ) (weight : ℕ) → ((n : ℕ) → weight * (n + 1) ≡ weight + weight * n) → weight * 0 ≡ 0 → (bound first count : ℕ)
    → ((k : ℕ) → k < count → f (first + k) ≡ (if nat_lt k bound then weight else 0)) → sum_by f (range_with_len first count) ≡ weight * min bound count
below_sum f weight times nothing bound first zero each =
    let none : min bound 0 ≡ 0 = omega arith in
    sym (ap (λ (n : ℕ). weight * n) none ∙ nothing)
below_sum f weight times nothing zero first (suc count) each =
    let rest : sum_by f (range_with_len (first + 1) count) ≡ weight * min 0 count = below_sum f weight times nothing 0 (first + 1) count (λ k below. shifted k below) in
    let here : f first ≡ 0 = start ∙ not_chosen (nat_lt 0 0) weight 0 (le-ltb 0 0 (omega arith)) in
    let least : min 0 count ≡ min 0 (suc count) = omega arith in
    sum_more f first (range_with_len (first + 1) count) ∙ ap (λ (n : ℕ). n + sum_by f (range_with_len (first + 1) count)) here ∙ ap (λ (n : ℕ). 0 + n) rest ∙ zero-add (weight * min 0 count) ∙ ap (λ (n : ℕ). weight * n) least
  where
    start : f first ≡ (if nat_lt 0 0 then weight else 0)
    start = let at : first + 0 ≡ first = omega arith in subst (λ (n : ℕ). f n ≡ (if nat_lt 0 0 then weight else 0)) at (each 0 (omega arith))

    shifted : (k : ℕ) → k < count → f (first + 1 + k) ≡ (if nat_lt k 0 then weight else 0)
    shifted k below =
        let at : first + (k + 1) ≡ first + 1 + k = omega arith in
        subst (λ (n : ℕ). f n ≡ (if nat_lt k 0 then weight else 0)) at
        (each (k + 1) (omega (arith, below)) ∙ not_chosen (nat_lt (k + 1) 0) weight 0 (le-ltb (k + 1) 0 (omega arith)) ∙ sym (not_chosen (nat_lt k 0) weight 0 (le-ltb k 0 (omega arith))))
below_sum f weight times nothing (suc bound) first (suc count) each =
    let rest : sum_by f (range_with_len (first + 1) count) ≡ weight * min bound count = below_sum f weight times nothing bound (first + 1) count (λ k below. shifted k below) in
    let here : f first ≡ weight = start ∙ chosen (nat_lt 0 (suc bound)) weight 0 (lt-ltb 0 (suc bound) (omega arith)) in
    let least : min (suc bound) (suc count) ≡ min bound count + 1 = omega arith in
    let product : weight * min (suc bound) (suc count) ≡ weight + weight * min bound count = ap (λ (n : ℕ). weight * n) least ∙ times (min bound count) in
    sum_more f first (range_with_len (first + 1) count) ∙ ap (λ (n : ℕ). n + sum_by f (range_with_len (first + 1) count)) here ∙ ap (λ (n : ℕ). weight + n) rest ∙ sym product
  where
    start : f first ≡ (if nat_lt 0 (suc bound) then weight else 0)
    start = let at : first + 0 ≡ first = omega arith in subst (λ (n : ℕ). f n ≡ (if nat_lt 0 (suc bound) then weight else 0)) at (each 0 (omega arith))

    shifted : (k : ℕ) → k < count → f (first + 1 + k) ≡ (if nat_lt k bound then weight else 0)
    shifted k below =
        let at : first + (k + 1) ≡ first + 1 + k = omega arith in
        subst (λ (n : ℕ). f n ≡ (if nat_lt k bound then weight else 0)) at
        (each (k + 1) (omega (arith, below)) ∙ elim (cases_lt k bound) [
          | inl within ↦ chosen (nat_lt (k + 1) (suc bound)) weight 0 (lt-ltb (k + 1) (suc bound) (omega (arith, within))) ∙ sym (chosen (nat_lt k bound) weight 0 (lt-ltb k bound within))
          | inr past ↦ not_chosen (nat_lt (k + 1) (suc bound)) weight 0 (le-ltb (k + 1) (suc bound) (omega (arith, past))) ∙ sym (not_chosen (nat_lt k bound) weight 0 (le-ltb k bound past))
        ])

-- The pages of both indices, part by part.
pub both_sum : (f : ℕ → ℕ) (first count : ℕ) → sum_by f (flat_map both_indices (range_with_len first count)) ≡ sum_by (λ id. f (number_of id 0) + f (number_of id 1)) (range_with_len first count)
both_sum f first zero = refl
both_sum f first (suc count) =
    let later = flat_map both_indices (range_with_len (first + 1) count) in
    let rest = both_sum f (first + 1) count in
    let one = sum_more f (number_of first 0) (number_of first 1 ∷ later) in
    let two = sum_more f (number_of first 1) later in
    let pair = sum_more (λ id. f (number_of id 0) + f (number_of id 1)) first (range_with_len (first + 1) count) in
    omega (arith, rest, one, two, pair)

pub mapped_sum : (f g : ℕ → ℕ) (first count : ℕ) → sum_by f (map g (range_with_len first count)) ≡ sum_by (λ n. f (g n)) (range_with_len first count)
mapped_sum f g first zero = refl
mapped_sum f g first (suc count) =
    sum_more f (g first) (map g (range_with_len (first + 1) count)) ∙ ap (λ (n : ℕ). f (g first) + n) (mapped_sum f g (first + 1) count)
    ∙ sym (sum_more (λ n. f (g n)) first (range_with_len (first + 1) count))

-- The end of a range on its own.
split_sum : (f : ℕ → ℕ) (first one two : ℕ) → sum_by f (range_with_len first (one + two)) ≡ sum_by f (range_with_len first one) + sum_by f (range_with_len (first + one) two)
split_sum f first zero two =
    let size : zero + two ≡ two = omega arith in
    let at : first ≡ first + zero = omega arith in
    ap (λ (n : ℕ). sum_by f (range_with_len first n)) size ∙ ap (λ (n : ℕ). sum_by f (range_with_len n two)) at ∙ sym (zero-add (sum_by f (range_with_len (first + zero) two)))
split_sum f first (suc one) two =
    let size : suc one + two ≡ suc (one + two) = omega arith in
    let at : first + 1 + one ≡ first + suc one = omega arith in
    let here = sum_more f first (range_with_len (first + 1) one) in
    ap (λ (n : ℕ). sum_by f (range_with_len first n)) size
    ∙ sum_more f first (range_with_len (first + 1) (one + two))
    ∙ ap (λ (n : ℕ). f first + n) (split_sum f (first + 1) one two ∙ ap (λ (n : ℕ). sum_by f (range_with_len (first + 1) one) + sum_by f (range_with_len n two)) at)
    ∙ omega (arith, here)

add_up : (whole left right mark pairs three rest states behind most_entries later s m b : ℕ) → whole ≡ left + right → left ≡ mark + pairs → mark ≡ 9 → pairs ≡ three + rest → three ≡ 6
    → rest ≡ states + behind → behind ≡ most_entries + later → states ≡ 8 * min s states_blocks → most_entries ≡ 10 * min m 16 → later ≡ 8 * min (s - states_blocks) later_states_blocks → right ≡ 3 * min b 40 → s ≤ states_blocks + later_states_blocks → m ≤ 16 → b ≤ 40 → whole + 7 ≡ 22 + 8 * s + 10 * m + 3 * b
add_up whole left right mark pairs three rest states behind most_entries later s m b a1 a2 a3 a4 a5 a6 a7 a8 a9 a10 a11 few small low = omega (arith, a1, a2, a3, a4, a5, a6, a7, a8, a9, a10, a11, few, small, low)

module _ (c : Config) where
  abbrev for_application : ℕ → ℕ
  for_application number = if is_own_application c number then record_pages 32 else 0

  abbrev for_part : ℕ → ℕ
  for_part number = if is_own_part c number then record_pages (part_length (part_of_block (number / 8))) else for_application number

  -- The pages of a number that is none of the mark and the commit.
  of_other : (number : ℕ) → 18 ≤ number → own_pages c number ≡ for_part number
  unfolding own_pages
  of_other number high =
      not_chosen (number == 8) (record_pages 8) _ (ne_eqb number 8 (λ e. omega (arith, e, high)))
      ∙ not_chosen ((number == 16) || (number == 17)) (record_pages 26) _ (or_from (number == 16) (number == 17) (ne_eqb number 16 (λ e. omega (arith, e, high))) (ne_eqb number 17 (λ e. omega (arith, e, high))))

  pub used_is : (id : ℕ) → 3 ≤ id → id < end_part → is_used c id ≡ has_part c (part_of_block id)
  used_is id low high =
      ap (λ (b : Bool). b && nat_lt id end_part && has_part c (part_of_block id)) (le-leb 3 id low) ∙ ap (λ (b : Bool). true && b && has_part c (part_of_block id)) (lt-ltb id end_part high)

  and_true : (b : Bool) → (b && true) ≡ b
  and_true true = refl
  and_true false = refl

  -- The pages of an index of a part.
  pub of_part : (id index : ℕ) → 3 ≤ id → id < end_part → index ≤ 1 → own_pages c (number_of id index) ≡ (if has_part c (part_of_block id) then record_pages (part_length (part_of_block id)) else 0)
  of_part id index low high small =
      let number = number_of id index in
      let at : number / 8 ≡ id = omega (arith, small) in
      let own : is_own_part c number ≡ has_part c (part_of_block id) =
      ap (λ (n : ℕ). is_used c n && nat_le (number % 8) 1) at ∙ ap (λ (b : Bool). is_used c id && b) (le-leb (number % 8) 1 (omega (arith, small)))
      ∙ and_true (is_used c id) ∙ used_is id low high in
      let no_application : is_own_application c number ≡ false =
      and_left ((number % 8 == 0) && nat_le 64 (number / 8)) (nat_lt (number / 8) (64 + c.blocks))
      (and_right (number % 8 == 0) (nat_le 64 (number / 8)) (lt-leb 64 (number / 8) (omega (arith, at, high)))) in
      of_other number (omega (arith, low))
      ∙ ap (λ (b : Bool). if b then record_pages (part_length (part_of_block (number / 8))) else for_application number) own
      ∙ ap (λ (n : ℕ). if has_part c (part_of_block id) then record_pages (part_length (part_of_block n)) else for_application number) at
      ∙ ap (λ (n : ℕ). if has_part c (part_of_block id) then record_pages (part_length (part_of_block id)) else n) (not_chosen (is_own_application c number) (record_pages 32) 0 no_application)

  -- The pages of both indices of a part.
  abbrev both : ℕ → ℕ
  both id = own_pages c (number_of id 0) + own_pages c (number_of id 1)

  twice : (b : Bool) (n : ℕ) → (if b then n else 0) + (if b then n else 0) ≡ (if b then n + n else 0)
  twice true n = refl
  twice false n = refl

  both_of : (id : ℕ) → 3 ≤ id → id < end_part → both id ≡ (if has_part c (part_of_block id) then record_pages (part_length (part_of_block id)) + record_pages (part_length (part_of_block id)) else 0)
  both_of id low high =
      ap (λ (n : ℕ). n + own_pages c (number_of id 1)) (of_part id 0 low high (omega arith))
      ∙ ap (λ (n : ℕ). (if has_part c (part_of_block id) then record_pages (part_length (part_of_block id)) else 0) + n) (of_part id 1 low high (omega arith))
      ∙ twice (has_part c (part_of_block id)) (record_pages (part_length (part_of_block id)))

  by_part : (id : ℕ) (part : Part) → 3 ≤ id → id < end_part → part_of_block id ≡ part → both id ≡ (if has_part c part then record_pages (part_length part) + record_pages (part_length part) else 0)
  by_part id part low high is = both_of id low high ∙ ap (λ (x : Part). if has_part c x then record_pages (part_length x) + record_pages (part_length x) else 0) is

  states_of : (k : ℕ) → k < 4 → both (4 + k) ≡ (if nat_lt k (state_blocks (length c.events.items)) then 8 else 0)
  states_of k below = elim (kind_of (4 + k) (omega arith)) [
    | is_summary at of ↦ absurd (omega (arith, at))
    | is_entry low high of ↦ absurd (omega (arith, low, below))
    | are_later low of ↦ absurd (omega (arith, low, below))
    | are_states low high of ↦
        by_part (4 + k) (States (16 * (4 + k - 4))) (omega arith) (omega (arith, below)) of
        ∙ ap (λ (b : Bool). if b then 8 else 0) (elim (cases_lt k (state_blocks (length c.events.items))) [
          | inl within ↦ lt-ltb (16 * (4 + k - 4)) (length c.events.items) (omega (arith, within)) ∙ sym (lt-ltb k (state_blocks (length c.events.items)) within)
          | inr past ↦ le-ltb (16 * (4 + k - 4)) (length c.events.items) (omega (arith, past)) ∙ sym (le-ltb k (state_blocks (length c.events.items)) past)
        ])
  ]

  entries_of : (k : ℕ) → k < 16 → both (8 + k) ≡ (if nat_lt k c.memory then 10 else 0)
  entries_of k below = elim (kind_of (8 + k) (omega arith)) [
    | is_summary at of ↦ absurd (omega (arith, at))
    | are_states low high of ↦ absurd (omega (arith, high))
    | are_later low of ↦ absurd (omega (arith, low, below))
    | is_entry low high of ↦
        let place : 8 + k - 8 ≡ k = omega arith in
        by_part (8 + k) (Entry (8 + k - 8)) (omega arith) (omega (arith, below)) of
        ∙ ap (λ (n : ℕ). if nat_lt n c.memory then 10 else 0) place
  ]

  later_of : (k : ℕ) → k < later_states_blocks → both (later_states_id + k) ≡ (if nat_lt k (state_blocks (length c.events.items) - 4) then 8 else 0)
  later_of k below = elim (kind_of (later_states_id + k) (omega arith)) [
    | is_summary at of ↦ absurd (omega (arith, at))
    | are_states low high of ↦ absurd (omega (arith, high))
    | is_entry low high of ↦ absurd (omega (arith, high))
    | are_later low of ↦
        by_part (later_states_id + k) (States (first_later_event + states_per_block * (later_states_id + k - later_states_id))) (omega arith) (omega (arith, below)) of
        ∙ ap (λ (b : Bool). if b then 8 else 0) (elim (cases_lt k (state_blocks (length c.events.items) - 4)) [
          | inl within ↦ lt-ltb (first_later_event + states_per_block * (later_states_id + k - later_states_id)) (length c.events.items) (omega (arith, within)) ∙ sym (lt-ltb k (state_blocks (length c.events.items) - 4) within)
          | inr past ↦ le-ltb (first_later_event + states_per_block * (later_states_id + k - later_states_id)) (length c.events.items) (omega (arith, past)) ∙ sym (le-ltb k (state_blocks (length c.events.items) - 4) past)
        ])
  ]

  pub applications_of : (k : ℕ) → k < 40 → own_pages c (application_number (0 + k)) ≡ (if nat_lt k c.blocks then 3 else 0)
  applications_of k below =
      let number = application_number (0 + k) in
      let at : number / 8 ≡ 64 + k = omega arith in
      let no_part : is_own_part c number ≡ false =
      and_left (is_used c (number / 8)) (nat_le (number % 8) 1)
      (and_left (nat_le 3 (number / 8) && nat_lt (number / 8) end_part) (has_part c (part_of_block (number / 8)))
      (and_right (nat_le 3 (number / 8)) (nat_lt (number / 8) end_part) (le-ltb (number / 8) end_part (omega (arith, at))))) in
      let own : is_own_application c number ≡ nat_lt k c.blocks =
      ap (λ (b : Bool). b && nat_le 64 (number / 8) && nat_lt (number / 8) (64 + c.blocks)) (eq-eqb (number % 8) 0 (omega arith))
      ∙ ap (λ (b : Bool). true && b && nat_lt (number / 8) (64 + c.blocks)) (le-leb 64 (number / 8) (omega (arith, at)))
      ∙ elim (cases_lt k c.blocks) [
        | inl within ↦ lt-ltb (number / 8) (64 + c.blocks) (omega (arith, at, within)) ∙ sym (lt-ltb k c.blocks within)
        | inr past ↦ le-ltb (number / 8) (64 + c.blocks) (omega (arith, at, past)) ∙ sym (le-ltb k c.blocks past)
      ] in
      of_other number (omega arith)
      ∙ not_chosen (is_own_part c number) (record_pages (part_length (part_of_block (number / 8)))) (for_application number) no_part
      ∙ ap (λ (b : Bool). if b then 3 else 0) own

  mark_and_commit : sum_by (own_pages c) (8 ∷ 16 ∷ 17 ∷ []) ≡ 9
  unfolding own_pages
  mark_and_commit = refl

  summary_of_both : both 3 ≡ 6
  summary_of_both = both_of 3 (omega arith) (omega arith)

  -- The configuration's own records take all that it needs but 7 pages.
  pub own_sum : IsGiven c → sum_by (own_pages c) numbers + 7 ≡ needed_pages c
  unfolding numbers
  own_sum given =
      let pairs = flat_map both_indices (range_with_len 3 parts) in
      let blocks = map application_number (range_with_len 0 40) in
      add_up (sum_by (own_pages c) numbers) (sum_by (own_pages c) ((8 ∷ 16 ∷ 17 ∷ []) ++ pairs)) (sum_by (own_pages c) blocks)
      (sum_by (own_pages c) (8 ∷ 16 ∷ 17 ∷ [])) (sum_by (own_pages c) pairs) (both 3) (sum_by both (range_with_len 4 (parts - 1)))
      (sum_by both (range_with_len 4 4)) (sum_by both (range_with_len 8 (most_entries + later_states_blocks))) (sum_by both (range_with_len 8 most_entries)) (sum_by both (range_with_len later_states_id later_states_blocks)) (state_blocks (length c.events.items)) c.memory c.blocks
      (sum_by-append (own_pages c) ((8 ∷ 16 ∷ 17 ∷ []) ++ pairs) blocks)
      (sum_by-append (own_pages c) (8 ∷ 16 ∷ 17 ∷ []) pairs)
      mark_and_commit (both_sum (own_pages c) 3 parts ∙ sum_more both 3 (range_with_len 4 (parts - 1))) summary_of_both (split_sum both 4 4 (most_entries + later_states_blocks)) (split_sum both 8 most_entries later_states_blocks)
      (below_sum both 8 (λ n. omega arith) (omega arith) (state_blocks (length c.events.items)) 4 4 states_of)
      (below_sum both 10 (λ n. omega arith) (omega arith) c.memory 8 16 entries_of)
      (below_sum both 8 (λ n. omega arith) (omega arith) (state_blocks (length c.events.items) - 4) later_states_id later_states_blocks later_of)
      (mapped_sum (own_pages c) application_number 0 40
      ∙ below_sum (λ n. own_pages c (application_number n)) 3 (λ n. omega arith) (omega arith) c.blocks 0 40 applications_of)
      (omega (arith, given.events)) given.valid.memory.1 given.valid.blocks

-- What is held or may be written, over a list of numbers.
most_sum : (f own : ℕ → ℕ) (ns : List ℕ) → sum_by (λ n. max (f n) (own n)) ns ≡ sum_by own ns + sum_by (λ n. f n - own n) ns
most_sum f own [] = refl
most_sum f own (n ∷ ns) =
    let rest = most_sum f own ns in
    let most = sum_more (λ m. max (f m) (own m)) n ns in
    let owns = sum_more own n ns in
    let beyond = sum_more (λ m. f m - own m) n ns in
    omega (arith, rest, most, owns, beyond)

pub borne_has_room : (c : Config) → IsGiven c → (value : ℕ → Content) → IsBorne c value → sum_by (λ number. max (pages_of (value number)) (own_pages c number)) numbers + 7 ≤ c.pages
borne_has_room c given value borne =
    omega (arith, most_sum (λ number. pages_of (value number)) (own_pages c) numbers, own_sum c given, borne)

-- The used blocks lie between the commit and the application blocks, and are parts of the configuration.
pub used_range : (c : Config) (id : ℕ) → IsTrue (is_used c id) → (3 ≤ id) × (id < end_part) × IsTrue (has_part c (part_of_block id))
used_range c id used =
    let both = and_parts (nat_le 3 id && nat_lt id end_part) (has_part c (part_of_block id)) used in
    let range = and_parts (nat_le 3 id) (nat_lt id end_part) both.0 in
    (leb-true 3 id range.0, ltb-true id end_part range.1, both.1)

-- A used block is as long as its part.
pub own_part : (c : Config) (id index : ℕ) → IsTrue (is_used c id) → index ≤ 1 → own_pages c (number_of id index) ≡ record_pages (part_length (part_of_block id))
own_part c id index used small =
    let range = used_range c id used in
    of_part c id index range.0 range.1 small ∙ chosen (has_part c (part_of_block id)) (record_pages (part_length (part_of_block id))) 0 range.2
