-- The laws of a driver over an EEPROM.
use Rattle.std.proofs.Common.{◌≡◌, ◌+◌, ◌*◌, ◌<◌, ◌≤◌, ℕ, suc, Bool, true, false, List, [], ◌∷◌, length, length-take, Option, Some, None, refl, sym, ◌∙◌, subst, arith}
use Rattle.std.specs.Prelude.{◌||◌, ◌==◌, if◌then◌else◌, slice_range, IsTrue}
use Rattle.flt_flash.specs.Content.{Content, missing, invalid, bytes, size_of, IsShort}
use Rattle.flt_flash.specs.Blocks.{byte_pages}
use Rattle.flt_flash.specs.Image.{sector_at}
use Rattle.flt_flash.specs.State.{FlashState}
use Rattle.flt_pages.proofs.Finding.{length_most}
use Rattle.flt_pages.proofs.PageBytes.{flat, flat_size, range_pages, range_size}
use Rattle.flt_ea.specs.State.{HasUnits}
use Rattle.flt_ea.specs.Image.{gate_unit, bytes_after_gate, place_content, current_place, has_last_sequence, value_from, spent_from, stuck_from, value_in, is_spent_in, is_stuck_in}
use Rattle.flt_ea.specs.declared.place.Held.{Held}
use Rattle.flt_ea.specs.Proper.{IsHeldPlace, current_held}

-- From one position on.
module _ (P : ℕ → Type 0) (from : ℕ) where
  pub here : P (from + 0) → P from
  here is = subst P (let e : from + 0 ≡ from = omega arith in e) is

  pub here_is : P from → P (from + 0)
  here_is is = subst P (let e : from ≡ from + 0 = omega arith in e) is

  pub behind : (k : ℕ) → P (from + suc k) → P (from + 1 + k)
  behind k is = subst P (let e : from + suc k ≡ from + 1 + k = omega arith in e) is

  pub behind_is : (k : ℕ) → P (from + 1 + k) → P (from + suc k)
  behind_is k is = subst P (let e : from + 1 + k ≡ from + suc k = omega arith in e) is

module _ (units : List (List ℕ)) where
  -- What the current place of a position holds.
  abbrev content_at : ℕ → Content
  content_at position = place_content units position (current_place units position)

  -- It has the last sequence number.
  abbrev last_at : ℕ → Bool
  last_at position = has_last_sequence (current_place units position)

  pub value_first : (from number : ℕ) (numbers : List ℕ) (block : ℕ)
      → value_from from (number ∷ numbers) units block ≡ (if number == block then content_at from else value_from (from + 1) numbers units block)
  unfolding value_from
  value_first from number numbers block = refl

  pub value_none : (from block : ℕ) → value_from from [] units block ≡ missing
  unfolding value_from
  value_none from block = refl

  pub stuck_first : (from number : ℕ) (numbers : List ℕ) (block : ℕ)
      → stuck_from from (number ∷ numbers) units block ≡ (if number == block then last_at from else stuck_from (from + 1) numbers units block)
  unfolding stuck_from
  stuck_first from number numbers block = refl

  pub stuck_none : (from block : ℕ) → stuck_from from [] units block ≡ false
  unfolding stuck_from
  stuck_none from block = refl

  pub spent_first : (from number : ℕ) (numbers : List ℕ) → spent_from from (number ∷ numbers) units ≡ (last_at from || spent_from (from + 1) numbers units)
  unfolding spent_from
  spent_first from number numbers = refl

  pub spent_none : (from : ℕ) → spent_from from [] units ≡ false
  unfolding spent_from
  spent_none from = refl

  pub either_first : (a b : Bool) → a ≡ true → (a || b) ≡ true
  either_first true b is = refl
  either_first false b is = absurd cc

  pub either_second : (a b : Bool) → b ≡ true → (a || b) ≡ true
  either_second true b is = refl
  either_second false b is = is

  -- Of a block that is looked for and one that is not: what is stuck there is spent.
  spent_by : (test last stuck spent : Bool) → (stuck ≡ true → spent ≡ true) → (if test then last else stuck) ≡ true → (last || spent) ≡ true
  spent_by true last stuck spent rest is = either_first last spent is
  spent_by false last stuck spent rest is = either_second last spent (rest is)

  -- A block that is stuck is spent.
  pub stuck_spent : (from : ℕ) (numbers : List ℕ) (block : ℕ) → stuck_from from numbers units block ≡ true → spent_from from numbers units ≡ true
  stuck_spent from [] block is = absurd (cc (stuck_none from block, is))
  stuck_spent from (number ∷ numbers) block is =
      spent_first from number numbers
      ∙ spent_by (number == block) (last_at from) (stuck_from (from + 1) numbers units block) (spent_from (from + 1) numbers units)
      (stuck_spent (from + 1) numbers block) (sym (stuck_first from number numbers block) ∙ is)

  -- Each block is short where each place is.
  pub short_all : (from : ℕ) (numbers : List ℕ) (block : ℕ) → ((k : ℕ) → k < length numbers → IsShort (content_at (from + k))) → IsShort (value_from from numbers units block)
  short_all from [] block all = subst (λ (c : Content). size_of c ≤ 128) (sym (value_none from block)) (omega arith)
  short_all from (number ∷ numbers) block all = subst (λ (c : Content). IsShort c) (sym (value_first from number numbers block))
      (by_test (number == block) (short_all (from + 1) numbers block (λ k within. behind (λ n. IsShort (content_at n)) from k (all (suc k) (omega arith)))))
    where
      by_test : (test : Bool) → IsShort (value_from (from + 1) numbers units block) → IsShort (if test then content_at from else value_from (from + 1) numbers units block)
      by_test true rest = here (λ n. IsShort (content_at n)) from (all 0 (omega arith))
      by_test false rest = rest

pub stuck_is_spent : (numbers : List ℕ) (image : List (List (List ℕ))) (block : ℕ) → IsTrue (is_stuck_in numbers image block) → IsTrue (is_spent_in numbers image)
stuck_is_spent numbers image block is = stuck_spent (sector_at image 0) 0 numbers block is

module _ (device : FlashState) (shape : HasUnits device) where
  abbrev units : List (List ℕ)
  units = sector_at device.image 0

  -- This many bytes are after a gate, where that number of units are.
  pub size_behind : (gate size : ℕ) → gate + 1 + byte_pages size ≤ length units → length (bytes_after_gate units gate size) ≡ size
  size_behind gate size room =
      let to = gate + 1 + byte_pages size in
      let range : List (List ℕ) = slice_range units (gate + 1) to in
      let many : length range ≡ byte_pages size = omega (arith, range_size units (gate + 1) to room) in
      omega (arith, length-take size (flat range), flat_size range (range_pages units (gate + 1) to room shape.bytes), many)

  -- As many bytes are after a gate as it says.
  pub held_size : (position : ℕ) (held : Held) → 10 * position + 10 ≤ device.pages → IsHeldPlace held → length (bytes_after_gate units (gate_unit position held.place) held.gate.length) ≡ held.gate.length
  held_size position held room proper =
      let most = length_most held.gate.valid held.gate.length proper.gate.kind in
      let place = proper.place in
      size_behind (gate_unit position held.place) held.gate.length (omega (arith, shape.units))

  short_at : (position : ℕ) → 10 * position + 10 ≤ device.pages → (found : Option Held) → current_place units position ≡ found → size_of (place_content units position found) ≤ 128
  short_at position room None is = omega arith
  short_at position room (Some held) is = by_valid held.gate.valid
    where
      proper : IsHeldPlace held
      proper = current_held units position held is

      by_valid : (valid : Bool) → size_of (if valid then bytes (bytes_after_gate units (gate_unit position held.place) held.gate.length) else invalid) ≤ 128
      by_valid true = omega (arith, held_size position held room proper, length_most held.gate.valid held.gate.length proper.gate.kind)
      by_valid false = omega arith

pub value_is_short : (numbers : List ℕ) (device : FlashState) → HasUnits device → 10 * length numbers ≤ device.pages → (block : ℕ) → IsShort (value_in numbers device.image block)
value_is_short numbers device shape within block = short_all (sector_at device.image 0) 0 numbers block (λ k lt. short_at device shape (0 + k) (omega arith) (current_place (sector_at device.image 0) (0 + k)) refl)
