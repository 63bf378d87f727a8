-- The units of places, before and after a record is written to one of them.
use Rattle.std.proofs.Common.{◌≡◌, ◌≢◌, ◌⊎◌, inl, inr, ⊎_elim, ◌+◌, ◌<◌, ◌≤◌, ℕ, Bool, true, false, List, [], get_or, length, take, Option, Some, None, Ok, refl, sym, ◌∙◌, ap, subst, arith}
use Rattle.std.specs.Prelude.{◌==◌, if◌then◌else◌}
use Rattle.std.specs.List.{flat_map}
use Rattle.std.proofs.lemmas.Bool.{cases_lt, eq-eqb, eqb-true}
use Rattle.flt_flash.specs.Blocks.{byte_pages}
use Rattle.flt_flash.specs.Content.{invalid, bytes}
use Rattle.flt_pages.specs.LogHolds.{record_content}
use Rattle.flt_pages.specs.Record.{KeptApart}
use Rattle.flt_pages.proofs.Finding.{length_most}
use Rattle.flt_pages.proofs.Values.{same_range}
use Rattle.flt_ea.specs.Gate.{gate_bytes, gate_of}
use Rattle.flt_ea.specs.Image.{gate_unit, gate_at, bytes_after_gate, place_content, current_place, gate_in, newer, judged_places, next_place, next_sequence}
use Rattle.flt_ea.specs.Written.{IsEmptyAt, HoldsRecord}
use Rattle.flt_ea.specs.declared.gate.Gate.{Gate}
use Rattle.flt_ea.specs.declared.place.Held.{Held}
use Rattle.flt_ea.proofs.Judging.{chosen, held_at, place_cases, empty_first, empty_second, given_first, given_second, held_is}
use Rattle.flt_ea.specs.Proper.{IsHeldPlace, current_held}

-- A position is as it was: its gates are, and what its current place holds.
pub record SameAt (before after : List (List ℕ)) (position : ℕ) : Type 0 where
  pub first : gate_at after position 0 ≡ gate_at before position 0
  pub second : gate_at after position 1 ≡ gate_at before position 1
  pub content : place_content after position (current_place after position) ≡ place_content before position (current_place before position)

-- Its gates are those of this current place.
pub record IsAt (number : ℕ) (units : List (List ℕ)) (position : ℕ) (held : Option Held) : Type 0 where
  pub sound : judged_places number (gate_at units position 0) (gate_at units position 1) ≡ Ok held
  pub current : current_place units position ≡ held

pub is_at : (number : ℕ) (units : List (List ℕ)) (position : ℕ) (held : Option Held) → judged_places number (gate_at units position 0) (gate_at units position 1) ≡ Ok held → IsAt number units position held
is_at number units position held sound = record { sound = sound; current = held_is number (gate_at units position 0) (gate_at units position 1) held sound }

-- The five units of another place.
module _ (before after : List (List ℕ)) (unit : ℕ) (apart : KeptApart before after unit (unit + 5)) where
  module _ (gate : ℕ) (far : (gate + 5 ≤ unit) ⊎ (unit + 5 ≤ gate)) where
    pub gate_kept : get_or after gate [] ≡ get_or before gate []
    gate_kept = ⊎_elim (λ low. apart.before gate (omega arith)) (λ high. apart.behind gate (omega arith)) far

    pub bytes_kept : (size : ℕ) → size ≤ 128 → bytes_after_gate after gate size ≡ bytes_after_gate before gate size
    bytes_kept size most = ap (λ (l : List (List ℕ)). take size (flat_map (λ u. u) l))
        (same_range before after (gate + 1) (gate + 5) apart.size
        (λ k low lt. ⊎_elim (λ below. apart.before k (omega arith)) (λ above. apart.behind k (omega arith)) far)
        (gate + 1) (gate + 1 + byte_pages size) (omega arith) (omega arith))

  pub content_kept : (position : ℕ) (held : Held) → IsHeldPlace held → (gate_unit position held.place + 5 ≤ unit) ⊎ (unit + 5 ≤ gate_unit position held.place) → place_content after position (Some held) ≡ place_content before position (Some held)
  content_kept position held proper far =
      ap (λ (l : List ℕ). if held.gate.valid then bytes l else invalid)
      (bytes_kept (gate_unit position held.place) far held.gate.length (length_most held.gate.valid held.gate.length proper.gate.kind))

-- Two places are far from each other.
pub far_position : (position place other_position other : ℕ) → place < 2 → other < 2 → other_position ≢ position
    → (gate_unit other_position other + 5 ≤ gate_unit position place) ⊎ (gate_unit position place + 5 ≤ gate_unit other_position other)
far_position position place other_position other within_one within_two differ = elim (cases_lt other_position position) [
  | inl below ↦ inl (omega arith)
  | inr above ↦ inr (let more : position < other_position = omega arith in omega arith)
]

pub far_place : (position place other : ℕ) → place < 2 → other < 2 → other ≢ place
    → (gate_unit position other + 5 ≤ gate_unit position place) ⊎ (gate_unit position place + 5 ≤ gate_unit position other)
far_place position place other within_one within_two differ = elim (cases_lt other place) [
  | inl below ↦ inl (let zero : other ≡ 0 = omega arith in let one : place ≡ 1 = omega arith in omega arith)
  | inr above ↦ inr (let zero : place ≡ 0 = omega arith in let one : other ≡ 1 = omega arith in omega arith)
]

pub place_within : (held : Option Held) → next_place held < 2
place_within held = ⊎_elim (λ zero. omega (arith, zero)) (λ one. omega (arith, one)) (place_cases held)

pub place_other : (held : Held) → held.place ≢ next_place (Some held)
place_other held same = by_test (held.place == 0) refl same
  where
    by_test : (test : Bool) → test ≡ (held.place == 0) → held.place ≡ chosen test → ⊥
    by_test true told is = (let zero : held.place ≡ 0 = eqb-true held.place 0 (sym told) in omega arith)
    by_test false told is = absurd (let yes : true ≡ false = sym (eq-eqb held.place 0 is) ∙ sym told in cc yes)

module _ (number position : ℕ) (before after : List (List ℕ)) (held : Option Held) (was : IsAt number before position held)
    (apart : KeptApart before after (gate_unit position (next_place held)) (gate_unit position (next_place held) + 5)) where
  abbrev unit : ℕ
  unit = gate_unit position (next_place held)

  -- Another position.
  module _ (other : ℕ) (differ : other ≢ position) where
    far : (place : ℕ) → place < 2 → (gate_unit other place + 5 ≤ unit) ⊎ (unit + 5 ≤ gate_unit other place)
    far place within = far_position position (next_place held) other place (place_within held) within differ

    same_first : gate_at after other 0 ≡ gate_at before other 0
    same_first = gate_kept before after unit apart (gate_unit other 0) (far 0 (omega arith))

    same_second : gate_at after other 1 ≡ gate_at before other 1
    same_second = gate_kept before after unit apart (gate_unit other 1) (far 1 (omega arith))

    same_current : current_place after other ≡ current_place before other
    same_current = (λ i. newer (gate_in (same_first i)) (gate_in (same_second i)))

    same_content : (found : Option Held) → current_place before other ≡ found → place_content after other found ≡ place_content before other found
    same_content None is = refl
    same_content (Some found) is =
        let proper = current_held before other found is in
        content_kept before after unit apart other found proper (far found.place proper.place)

    pub other_same : SameAt before after other
    other_same = record { first = same_first; second = same_second; content = ap (place_content after other) same_current ∙ same_content (current_place before other) refl }

  -- The current place of this one stays.
  content_stays : (found : Option Held) → held ≡ found → place_content after position found ≡ place_content before position found
  content_stays None is = refl
  content_stays (Some found) is =
      let proper = current_held before position found (was.current ∙ is) in
      let apart_from = subst (λ (h : Option Held). KeptApart before after (gate_unit position (next_place h)) (gate_unit position (next_place h) + 5)) is apart in
      content_kept before after (gate_unit position (next_place (Some found))) apart_from position found proper
      (far_place position (next_place (Some found)) found.place (place_within (Some found)) proper.place (place_other found))

  other_gate : (place other : ℕ) → next_place held ≡ place → place < 2 → other < 2 → other ≢ place → gate_at after position other ≡ gate_at before position other
  other_gate place other is within other_within differ =
      let apart_from = subst (λ n. KeptApart before after (gate_unit position n) (gate_unit position n + 5)) is apart in
      gate_kept before after (gate_unit position place) apart_from (gate_unit position other) (far_place position place other within other_within differ)

  abbrev laid : List ℕ
  laid = get_or after (gate_unit position (next_place held)) []

  laid_at : (place : ℕ) → next_place held ≡ place → laid ≡ gate_at after position place
  laid_at place is = ap (λ n. get_or after (gate_unit position n) []) is

  -- The position by its gates, one of which is the unit that was written.
  at_first : (found : Option Held) → next_place held ≡ 0 → judged_places number laid (gate_at before position 1) ≡ Ok found → IsAt number after position found
  at_first found is sound = is_at number after position found
      ((λ i. judged_places number (sym (laid_at 0 is) i) (other_gate 0 1 is (omega arith) (omega arith) (λ e. omega (arith, e)) i)) ∙ sound)

  at_second : (found : Option Held) → next_place held ≡ 1 → judged_places number (gate_at before position 0) laid ≡ Ok found → IsAt number after position found
  at_second found is sound = is_at number after position found
      ((λ i. judged_places number (other_gate 1 0 is (omega arith) (omega arith) (λ e. omega (arith, e)) i) (sym (laid_at 1 is) i)) ∙ sound)

  -- The current place is the one that it was, with all that it holds.
  pub record StaysAt : Type 0 where
    pub is_held : IsAt number after position held
    pub content : place_content after position held ≡ place_content before position held

  pub gate_stood : laid ≡ get_or before (gate_unit position (next_place held)) [] → StaysAt
  gate_stood same = record { is_held = ⊎_elim by_first by_second (place_cases held); content = content_stays held refl }
    where
      by_first : next_place held ≡ 0 → IsAt number after position held
      by_first is = at_first held is (ap (λ (l : List ℕ). judged_places number l (gate_at before position 1)) (same ∙ ap (λ n. get_or before (gate_unit position n) []) is) ∙ was.sound)

      by_second : next_place held ≡ 1 → IsAt number after position held
      by_second is = at_second held is (ap (judged_places number (gate_at before position 0)) (same ∙ ap (λ n. get_or before (gate_unit position n) []) is) ∙ was.sound)

  pub gate_emptied : IsEmptyAt after (gate_unit position (next_place held)) → StaysAt
  gate_emptied empty = record {
    is_held = ⊎_elim
        (λ is. at_first held is (empty_first number (gate_at before position 0) (gate_at before position 1) laid held was.sound empty.unspoiled empty.none is))
        (λ is. at_second held is (empty_second number (gate_at before position 0) (gate_at before position 1) laid held was.sound empty.unspoiled empty.none is))
        (place_cases held);
    content = content_stays held refl;
  }

  -- The current place is the one that was written.
  module _ (new : Gate) (written : List ℕ) (size : new.length ≡ length written) (block : new.block ≡ number) (next : new.sequence ≡ next_sequence held) (read : gate_of (gate_bytes new) ≡ Some new)
      (whole : HoldsRecord after (gate_unit position (next_place held)) new written) where
    pub gate_given : IsAt number after position (held_at (next_place held) new)
    gate_given = ⊎_elim
        (λ is. subst (λ n. IsAt number after position (held_at n new)) (sym is)
        (at_first (held_at 0 new) is (given_first number (gate_at before position 0) (gate_at before position 1) laid held was.sound whole.unspoiled (gate_bytes new) new whole.gate_is read block next is)))
        (λ is. subst (λ n. IsAt number after position (held_at n new)) (sym is)
        (at_second (held_at 1 new) is (given_second number (gate_at before position 0) (gate_at before position 1) laid held was.sound whole.unspoiled (gate_bytes new) new whole.gate_is read block next is)))
        (place_cases held)

    pub content_given : place_content after position (held_at (next_place held) new) ≡ record_content new.valid written
    content_given = ap (λ (l : List ℕ). if new.valid then bytes l else invalid) (ap (bytes_after_gate after (gate_unit position (next_place held))) size ∙ whole.holds)
