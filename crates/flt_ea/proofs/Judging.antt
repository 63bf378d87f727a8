-- What the gate units of a block say, before and after one of them is written.
use Rattle.std.proofs.Common.{◌≡◌, ◌⊎◌, inl, inr, ◌+◌, ◌<◌, ◌≤◌, ℕ, Bool, true, false, List, Option, Some, None, Result, Ok, Err, refl, sym, ◌∙◌, ap, arith}
use Rattle.std.specs.Prelude.{◌||◌, ◌==◌, nat_lt, not, if◌then◌else◌}
use Rattle.std.proofs.lemmas.Bool.{eq-eqb, ne_eqb}
use Rattle.std.proofs.lemmas.Bool.Decides.{nat_tests}
use Rattle.flt_code.specs.Seal.{unsealed}
use Rattle.flt_code.specs.Spoiled.{is_spoiled}
use Rattle.flt_ea.specs.Gate.{gate_of}
use Rattle.flt_ea.specs.Image.{gate_in, gate_of_word, newer, next_place, next_sequence, same_sequence, is_foreign, is_foreign_gate, is_damaged, judged_places}
use Rattle.flt_ea.specs.declared.gate.Gate.{Gate}
use Rattle.flt_ea.specs.declared.place.Held.{Held}

-- The place and gate of a block.
abbrev pub held_at : ℕ → Gate → Option Held
held_at place gate = Some (record { place = place; gate = gate })

pub lt_true : (a b : ℕ) → a < b → nat_lt a b ≡ true
lt_true a b less = grind (arith, nat_tests)

pub lt_false : (a b : ℕ) → b ≤ a → nat_lt a b ≡ false
lt_false a b least = grind (arith, nat_tests)

-- The place that a test chooses.
abbrev pub chosen : Bool → ℕ
chosen test = if test then 1 else 0

pub place_cases : (held : Option Held) → (next_place held ≡ 0) ⊎ (next_place held ≡ 1)
place_cases None = inl refl
place_cases (Some held) = by_test (held.place == 0)
  where
    by_test : (test : Bool) → (chosen test ≡ 0) ⊎ (chosen test ≡ 1)
    by_test true = inr refl
    by_test false = inl refl

-- The first of two places, by a test of their sequence numbers.
abbrev first_or : Bool → Gate → Gate → Option Held
first_or test first second = if test then held_at 1 second else held_at 0 first

no_first : {A : Type 0} (held : Option Held) (gate : Gate) → held_at 0 gate ≡ held → next_place held ≡ 0 → A
no_first held gate is place = absurd (let one : 1 ≡ 0 = ap next_place is ∙ place in omega (arith, one))

no_second : {A : Type 0} (held : Option Held) (gate : Gate) → held_at 1 gate ≡ held → next_place held ≡ 1 → A
no_second held gate is place = absurd (let one : 0 ≡ 1 = ap next_place is ∙ place in omega (arith, one))

no_none : {A : Type 0} (held : Option Held) → None ≡ held → next_place held ≡ 1 → A
no_none held is place = absurd (let one : 0 ≡ 1 = ap next_place is ∙ place in omega (arith, one))

-- The place that is not current is made empty.
emptied_first : (a b : Option Gate) (held : Option Held) → newer a b ≡ held → next_place held ≡ 0 → newer None b ≡ held
emptied_first None b held is place = is
emptied_first (Some first) None held is place = no_first held first is place
emptied_first (Some first) (Some second) held is place = by_test (nat_lt first.sequence second.sequence) is
  where
    by_test : (test : Bool) → first_or test first second ≡ held → held_at 1 second ≡ held
    by_test true is = is
    by_test false is = no_first held first is place

emptied_second : (a b : Option Gate) (held : Option Held) → newer a b ≡ held → next_place held ≡ 1 → newer a None ≡ held
emptied_second None None held is place = is
emptied_second None (Some second) held is place = no_second held second is place
emptied_second (Some first) None held is place = is
emptied_second (Some first) (Some second) held is place = by_test (nat_lt first.sequence second.sequence) is
  where
    by_test : (test : Bool) → first_or test first second ≡ held → held_at 0 first ≡ held
    by_test true is = no_second held second is place
    by_test false is = is

-- It is given a gate of the next sequence number.
module _ (new : Gate) (held : Option Held) (next : new.sequence ≡ next_sequence held) where
  after_second : (gate : Gate) → held_at 1 gate ≡ held → (newer (Some new) (Some gate) ≡ held_at 0 new) × (same_sequence (Some new) (Some gate) ≡ false)
  after_second gate is =
      let more : new.sequence ≡ gate.sequence + 1 = next ∙ sym (ap next_sequence is) in
      (ap (λ t. first_or t new gate) (lt_false new.sequence gate.sequence (omega arith)), ne_eqb new.sequence gate.sequence (λ e. omega (arith, e)))

  after_first : (gate : Gate) → held_at 0 gate ≡ held → (newer (Some gate) (Some new) ≡ held_at 1 new) × (same_sequence (Some gate) (Some new) ≡ false)
  after_first gate is =
      let more : new.sequence ≡ gate.sequence + 1 = next ∙ sym (ap next_sequence is) in
      (ap (λ t. first_or t gate new) (lt_true gate.sequence new.sequence (omega arith)), ne_eqb gate.sequence new.sequence (λ e. omega (arith, e)))

  gated_first : (a b : Option Gate) → newer a b ≡ held → next_place held ≡ 0 → (newer (Some new) b ≡ held_at 0 new) × (same_sequence (Some new) b ≡ false)
  gated_first a None is place = (refl, refl)
  gated_first None (Some second) is place = after_second second is
  gated_first (Some first) (Some second) is place = by_test (nat_lt first.sequence second.sequence) is
    where
      by_test : (test : Bool) → first_or test first second ≡ held → (newer (Some new) (Some second) ≡ held_at 0 new) × (same_sequence (Some new) (Some second) ≡ false)
      by_test true is = after_second second is
      by_test false is = no_first held first is place

  gated_second : (a b : Option Gate) → newer a b ≡ held → next_place held ≡ 1 → (newer a (Some new) ≡ held_at 1 new) × (same_sequence a (Some new) ≡ false)
  gated_second None None is place = no_none held is place
  gated_second None (Some second) is place = no_second held second is place
  gated_second (Some first) None is place = after_first first is
  gated_second (Some first) (Some second) is place = by_test (nat_lt first.sequence second.sequence) is
    where
      by_test : (test : Bool) → first_or test first second ≡ held → (newer (Some first) (Some new) ≡ held_at 1 new) × (same_sequence (Some first) (Some new) ≡ false)
      by_test true is = no_second held second is place
      by_test false is = after_first first is

-- What a judgement by four facts is.
abbrev pub verdict : Bool → Bool → Bool → Option Held → Result (Option Held) ℕ
verdict first second same found = if first then Err 0 else if second || same then Err 1 else Ok found

record IsSound (first second same : Bool) (found held : Option Held) : Type 0 where
  pub first_is : first ≡ false
  pub second_is : second ≡ false
  pub same_is : same ≡ false
  pub found_is : found ≡ held

sound : (first second same : Bool) (found held : Option Held) → verdict first second same found ≡ Ok held → IsSound first second same found held
sound true second same found held is = absurd cc
sound false true same found held is = absurd cc
sound false false true found held is = absurd cc
sound false false false found held is = record { first_is = refl; second_is = refl; same_is = refl; found_is = cc }

judged_sound : (first second same : Bool) (found held : Option Held) → first ≡ false → second ≡ false → same ≡ false → found ≡ held → verdict first second same found ≡ Ok held
judged_sound first second same found held one two three is = (λ i. verdict (one i) (two i) (three i) (is i))

-- A block whose gates are sound is held by the newer one.
pub held_is : (number : ℕ) (first second : List ℕ) (held : Option Held) → judged_places number first second ≡ Ok held → newer (gate_in first) (gate_in second) ≡ held
held_is number first second held was = (sound (is_damaged number first) (is_damaged number second) (same_sequence (gate_in first) (gate_in second)) (newer (gate_in first) (gate_in second)) held was).found_is

-- And no gate unit of it is spoiled.
pub none_spoiled : (number : ℕ) (first second : List ℕ) (held : Option Held) → judged_places number first second ≡ Ok held → (is_spoiled first ≡ false) × (is_spoiled second ≡ false)
none_spoiled number first second held was =
    let is = sound (is_damaged number first) (is_damaged number second) (same_sequence (gate_in first) (gate_in second)) (newer (gate_in first) (gate_in second)) held was in
    (neither (is_foreign number (unsealed first)) (is_spoiled first) is.first_is, neither (is_foreign number (unsealed second)) (is_spoiled second) is.second_is)
  where
    neither : (a b : Bool) → (a || b) ≡ false → b ≡ false
    neither true b is = absurd cc
    neither false b is = is

module _ (number : ℕ) (first second laid : List ℕ) (held : Option Held) (was : judged_places number first second ≡ Ok held) (unspoiled : is_spoiled laid ≡ false) where
  stood : IsSound (is_damaged number first) (is_damaged number second) (same_sequence (gate_in first) (gate_in second)) (newer (gate_in first) (gate_in second)) held
  stood = sound (is_damaged number first) (is_damaged number second) (same_sequence (gate_in first) (gate_in second)) (newer (gate_in first) (gate_in second)) held was

  -- The gate unit is no code word.
  module _ (none : unsealed laid ≡ None) where
    undamaged : is_damaged number laid ≡ false
    undamaged = (λ i. is_foreign number (none i) || unspoiled i)

    no_gate : gate_in laid ≡ None
    no_gate = ap gate_of_word none

    no_same : (a : Option Gate) → same_sequence a None ≡ false
    no_same None = refl
    no_same (Some gate) = refl

    pub empty_first : next_place held ≡ 0 → judged_places number laid second ≡ Ok held
    empty_first place = judged_sound (is_damaged number laid) (is_damaged number second) (same_sequence (gate_in laid) (gate_in second)) (newer (gate_in laid) (gate_in second)) held
        undamaged stood.second_is (ap (λ (a : Option Gate). same_sequence a (gate_in second)) no_gate)
        (ap (λ (a : Option Gate). newer a (gate_in second)) no_gate ∙ emptied_first (gate_in first) (gate_in second) held stood.found_is place)

    pub empty_second : next_place held ≡ 1 → judged_places number first laid ≡ Ok held
    empty_second place = judged_sound (is_damaged number first) (is_damaged number laid) (same_sequence (gate_in first) (gate_in laid)) (newer (gate_in first) (gate_in laid)) held
        stood.first_is undamaged (ap (same_sequence (gate_in first)) no_gate ∙ no_same (gate_in first))
        (ap (newer (gate_in first)) no_gate ∙ emptied_second (gate_in first) (gate_in second) held stood.found_is place)

  -- The gate unit is that of a gate of the block.
  module _ (word : List ℕ) (new : Gate) (is_word : unsealed laid ≡ Some word) (is_gate : gate_of word ≡ Some new) (block : new.block ≡ number) (next : new.sequence ≡ next_sequence held) where
    own : is_damaged number laid ≡ false
    own =
        ap (λ (o : Option (List ℕ)). is_foreign number o || is_spoiled laid) is_word
        ∙ ap (λ (o : Option Gate). is_foreign_gate number o || is_spoiled laid) is_gate
        ∙ (λ i. not (eq-eqb new.block number block i) || unspoiled i)

    that_gate : gate_in laid ≡ Some new
    that_gate = ap gate_of_word is_word ∙ is_gate

    pub given_first : next_place held ≡ 0 → judged_places number laid second ≡ Ok (held_at 0 new)
    given_first place =
        let gated = gated_first new held next (gate_in first) (gate_in second) stood.found_is place in
        judged_sound (is_damaged number laid) (is_damaged number second) (same_sequence (gate_in laid) (gate_in second)) (newer (gate_in laid) (gate_in second)) (held_at 0 new)
        own stood.second_is (ap (λ (a : Option Gate). same_sequence a (gate_in second)) that_gate ∙ gated.1) (ap (λ (a : Option Gate). newer a (gate_in second)) that_gate ∙ gated.0)

    pub given_second : next_place held ≡ 1 → judged_places number first laid ≡ Ok (held_at 1 new)
    given_second place =
        let gated = gated_second new held next (gate_in first) (gate_in second) stood.found_is place in
        judged_sound (is_damaged number first) (is_damaged number laid) (same_sequence (gate_in first) (gate_in laid)) (newer (gate_in first) (gate_in laid)) (held_at 1 new)
        stood.first_is own (ap (same_sequence (gate_in first)) that_gate ∙ gated.1) (ap (newer (gate_in first)) that_gate ∙ gated.0)
