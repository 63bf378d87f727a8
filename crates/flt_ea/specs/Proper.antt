-- What the current place of a block is.
use Rattle.std.proofs.Common.{◌≡◌, ◌<◌, ℕ, Bool, true, false, List, Option, Some, None, refl, ◌∙◌, ap, subst, arith}
use Rattle.std.specs.Prelude.{◌&&◌, ◌==◌, nat_le, nat_lt, if◌then◌else◌, slice_index, slice_range}
use Rattle.std.specs.Int.{from_be_bytes, w16, w32}
use Rattle.std.specs.Str.{bytes_eq}
use Rattle.flt_code.specs.Seal.{unsealed}
use Rattle.flt_code.specs.Word.{is_length}
use Rattle.flt_ea.specs.Gate.{gate_bytes, gate_candidate, checked_gate, gate_of}
use Rattle.flt_ea.specs.Image.{gate_in, gate_at, gate_of_word, newer, current_place}
use Rattle.flt_ea.specs.declared.gate.Gate.{Gate}
use Rattle.flt_ea.specs.declared.place.Held.{Held}

-- The length of a gate is one of its kind.
pub record IsProper (gate : Gate) : Type 0 where
  pub kind : is_length gate.valid gate.length ≡ true

both : (first second : Bool) → (first && second) ≡ true → first ≡ true
both true second is = refl
both false second is = is

module _ (gate : Gate) where
  by_candidate : (test more : Bool) (found : Gate) → is_length found.valid found.length ≡ test → (if test && more then Some found else None) ≡ Some gate → IsProper gate
  by_candidate true true found kind is = let same : found ≡ gate = cc is in subst IsProper same (record { kind = kind })
  by_candidate true false found kind is = absurd (cc is)
  by_candidate false more found kind is = absurd (cc is)

  proper_candidate : (bytes : List ℕ) → gate_candidate bytes ≡ Some gate → IsProper gate
  unfolding gate_candidate
  proper_candidate bytes is =
      let valid = slice_index bytes 1 == 1 in
      let size = from_be_bytes w16 (slice_range bytes 4 6) in
      let sequence = from_be_bytes w32 (slice_range bytes 6 10) in
      by_candidate (is_length valid size) (nat_le 1 sequence) (record { block = from_be_bytes w16 (slice_range bytes 2 4); length = size; valid = valid; sequence = sequence }) refl is

  by_checked : (test : Bool) (found : Gate) → (if test then Some found else None) ≡ Some gate → found ≡ gate
  by_checked true found is = cc is
  by_checked false found is = absurd (cc is)

  by_found : (bytes : List ℕ) (found : Option Gate) → gate_candidate bytes ≡ found → checked_gate found bytes ≡ Some gate → IsProper gate
  by_found bytes None was is = absurd (cc is)
  by_found bytes (Some found) was is = proper_candidate bytes (was ∙ ap Some (by_checked (bytes_eq (gate_bytes found) bytes) found is))

  proper_gate : (bytes : List ℕ) → gate_of bytes ≡ Some gate → IsProper gate
  unfolding gate_of
  proper_gate bytes is = by_found bytes (gate_candidate bytes) refl is

  by_word : (word : Option (List ℕ)) → gate_of_word word ≡ Some gate → IsProper gate
  by_word None is = absurd (cc is)
  by_word (Some word) is = proper_gate word is

  proper_in : (unit : List ℕ) → gate_in unit ≡ Some gate → IsProper gate
  proper_in unit is = by_word (unsealed unit) is

-- The place is one of two, and its gate is proper.
pub record IsHeldPlace (held : Held) : Type 0 where
  pub place : held.place < 2
  pub gate : IsProper held.gate

held_of : (place : ℕ) (gate : Gate) (held : Held) → place < 2 → IsProper gate → Some (record { place = place; gate = gate }) ≡ Some held → IsHeldPlace held
held_of place gate held within proper is =
    let same : record { place = place; gate = gate } ≡ held = cc is in
    subst IsHeldPlace same (record { place = within; gate = proper })

newer_held : (first second : Option Gate) (held : Held) → ((gate : Gate) → first ≡ Some gate → IsProper gate) → ((gate : Gate) → second ≡ Some gate → IsProper gate) → newer first second ≡ Some held → IsHeldPlace held
newer_held None None held one two is = absurd (cc is)
newer_held None (Some second) held one two is = held_of 1 second held (omega arith) (two second refl) is
newer_held (Some first) None held one two is = held_of 0 first held (omega arith) (one first refl) is
newer_held (Some first) (Some second) held one two is = by_test (nat_lt first.sequence second.sequence) is
  where
    by_test : (test : Bool) → (if test then Some (record { place = 1; gate = second }) else Some (record { place = 0; gate = first })) ≡ Some held → IsHeldPlace held
    by_test true is = held_of 1 second held (omega arith) (two second refl) is
    by_test false is = held_of 0 first held (omega arith) (one first refl) is

pub current_held : (units : List (List ℕ)) (position : ℕ) (held : Held) → current_place units position ≡ Some held → IsHeldPlace held
current_held units position held is = newer_held (gate_in (gate_at units position 0)) (gate_in (gate_at units position 1)) held
    (λ gate has. proper_in gate (gate_at units position 0) has) (λ gate has. proper_in gate (gate_at units position 1) has) is
