-- The gate of a place, as 16 bytes.
use Rattle.std.specs.Prelude.{◌≡◌, ◌<◌, ◌≤◌, ◌^◌, ◌==◌, ◌&&◌, ℕ, true, List, ◌∷◌, ◌++◌, replicate, slice_index, slice_range, nat_le, if◌then◌else◌, Option, Some, None}
use Rattle.std.specs.Int.{to_be_bytes, from_be_bytes, w16, w32}
use Rattle.std.specs.Str.{bytes_eq}
use Rattle.flt_code.specs.Word.{is_length}
use Rattle.flt_ea.specs.declared.gate.Gate.{Gate}

-- The numbers are within their fields, the sequence is at least 1, and the length is one of its kind.
pub record IsGate (gate : Gate) : Type 0 where
  pub block : gate.block < 2 ^ 16
  pub size : gate.length < 2 ^ 16
  pub most : gate.sequence < 2 ^ 32
  pub least : 1 ≤ gate.sequence
  pub kind : is_length gate.valid gate.length ≡ true

-- The bytes of a gate: its tag and kind, its numbers as big-endian bytes, and zeros.
unfoldable pub gate_bytes : Gate → List ℕ
gate_bytes gate = 0x45 ∷ (if gate.valid then 1 else 2) ∷ to_be_bytes w16 gate.block ++ to_be_bytes w16 gate.length ++ to_be_bytes w32 gate.sequence ++ replicate 6 0

-- The gate is the one whose bytes these are.
pub record IsGateOf (gate : Gate) (bytes : List ℕ) : Type 0 where
  pub proper : IsGate gate
  pub is : bytes ≡ gate_bytes gate

-- The gate that the fields would give.
unfoldable pub gate_candidate : List ℕ → Option Gate
gate_candidate bytes =
    let valid = slice_index bytes 1 == 1 in
    let block = from_be_bytes w16 (slice_range bytes 2 4) in
    let size = from_be_bytes w16 (slice_range bytes 4 6) in
    let sequence = from_be_bytes w32 (slice_range bytes 6 10) in
    if is_length valid size && nat_le 1 sequence then Some (record { block = block; length = size; valid = valid; sequence = sequence }) else None

-- A gate whose bytes these are.
abbrev pub checked_gate : Option Gate → List ℕ → Option Gate
checked_gate None bytes = None
checked_gate (Some gate) bytes = if bytes_eq (gate_bytes gate) bytes then Some gate else None

-- The gate of 16 bytes.
unfoldable pub gate_of : List ℕ → Option Gate
gate_of bytes = checked_gate (gate_candidate bytes) bytes
