-- The bytes of a gate are read as that gate.
use Rattle.std.proofs.Common.{rules, ◌≡◌, ◌≤◌, ℕ, Bool, true, false, List, Some, None, refl, sym, ◌∙◌, ap}
use Rattle.std.specs.Prelude.{if◌then◌else◌, ◌&&◌, nat_le}
use Rattle.std.specs.Str.{bytes_eq}
use Rattle.std.proofs.lemmas.Slice.Eq.{bytes_eq-Decides}
use Rattle.std.proofs.lemmas.Nat.{from_be_bytes-to_be_bytes_2, from_be_bytes-to_be_bytes_4}
use Rattle.flt_code.specs.Word.{is_length}
use Rattle.flt_ea.specs.declared.gate.Gate.{Gate}
use Rattle.flt_ea.specs.Gate.{IsGate, IsGateOf, gate_bytes, gate_candidate, checked_gate, gate_of}

kept : (test : Bool) (gate : Gate) → test ≡ true → (if test then Some gate else None) ≡ Some gate
kept test gate is = ap (λ b. if b then Some gate else None) is

both : (kind : Bool) (sequence : ℕ) → kind ≡ true → 1 ≤ sequence → (kind && nat_le 1 sequence) ≡ true
both kind sequence is least = search rules

abbrev gate_with : ℕ → ℕ → Bool → ℕ → Gate
gate_with block size valid sequence = record { block = block; length = size; valid = valid; sequence = sequence }

fields : (block size sequence : ℕ) (valid : Bool) → IsGate (gate_with block size valid sequence) → gate_candidate (gate_bytes (gate_with block size valid sequence)) ≡ Some (gate_with block size valid sequence)
unfolding gate_candidate gate_bytes
fields block size sequence true proper =
    (λ i. if is_length true (from_be_bytes-to_be_bytes_2 size proper.size i) && nat_le 1 (from_be_bytes-to_be_bytes_4 sequence proper.most i) then Some (gate_with (from_be_bytes-to_be_bytes_2 block proper.block i) (from_be_bytes-to_be_bytes_2 size proper.size i) true (from_be_bytes-to_be_bytes_4 sequence proper.most i)) else None)
    ∙ kept (is_length true size && nat_le 1 sequence) (gate_with block size true sequence) (both (is_length true size) sequence proper.kind proper.least)
fields block size sequence false proper =
    (λ i. if is_length false (from_be_bytes-to_be_bytes_2 size proper.size i) && nat_le 1 (from_be_bytes-to_be_bytes_4 sequence proper.most i) then Some (gate_with (from_be_bytes-to_be_bytes_2 block proper.block i) (from_be_bytes-to_be_bytes_2 size proper.size i) false (from_be_bytes-to_be_bytes_4 sequence proper.most i)) else None)
    ∙ kept (is_length false size && nat_le 1 sequence) (gate_with block size false sequence) (both (is_length false size) sequence proper.kind proper.least)

pub gate_of-gate_bytes : (gate : Gate) → IsGate gate → gate_of (gate_bytes gate) ≡ Some gate
unfolding gate_of
gate_of-gate_bytes gate proper =
    ap (λ c. checked_gate c (gate_bytes gate)) (fields gate.block gate.length gate.sequence gate.valid proper)
    ∙ kept (bytes_eq (gate_bytes gate) (gate_bytes gate)) gate ((bytes_eq-Decides (gate_bytes gate) (gate_bytes gate)).1 refl)

-- What is read by way of the candidate.
module _ (bytes : List ℕ) where
  pub read_candidate : (gate : Gate) (written : List ℕ) (same : Bool) → gate_candidate bytes ≡ Some gate → written ≡ gate_bytes gate → same ≡ bytes_eq written bytes → gate_of bytes ≡ (if same then Some gate else None)
  unfolding gate_of
  read_candidate gate written same is by eq =
      ap (λ c. checked_gate c bytes) is
      ∙ ap (λ (l : List ℕ). if bytes_eq l bytes then Some gate else None) (sym by)
      ∙ ap (λ b. if b then Some gate else None) (sym eq)

  pub read_nothing : gate_candidate bytes ≡ None → gate_of bytes ≡ None
  unfolding gate_of
  read_nothing is = ap (λ c. checked_gate c bytes) is

  pub no_gate : gate_of bytes ≡ None → (gate : Gate) → IsGate gate → bytes ≡ gate_bytes gate → ⊥
  no_gate none gate proper is =
      let some : gate_of bytes ≡ Some gate = ap gate_of is ∙ gate_of-gate_bytes gate proper in cc

  pub found_gate : (gate : Gate) (written : List ℕ) → IsGate gate → written ≡ gate_bytes gate → true ≡ bytes_eq written bytes → IsGateOf gate bytes
  found_gate gate written proper by eq = record { proper = proper; is = sym ((bytes_eq-Decides written bytes).0 (sym eq)) ∙ by }
