-- Worked units of an EEPROM: where a block is written next, gates in bytes, what places hold, their damage, and the units that arms mute.
use Rattle.std.specs.Prelude.{◌≡◌, ℕ, true, false, List, [], ◌∷◌, ◌++◌, replicate, map, Option, Some, None}
use Rattle.flt_flash.specs.Content.{bytes}
use Rattle.flt_flash.specs.declared.arm.Arm.TheVariants.{Cut, Fault, Mute}
use Rattle.flt_flash.specs.declared.arm.Pattern.TheVariants.{Tail, Odd}
use Rattle.flt_code.specs.Seal.{sealed}
use Rattle.flt_ea.specs.Gate.{gate_bytes, gate_of}
use Rattle.flt_ea.specs.Image.{value_in, next_place, next_sequence}
use Rattle.flt_ea.specs.State.{in_units}
use Rattle.flt_ea.specs.Examples.{has_none, plain_unit, torn_unit, place, empty, gates, damage, no_gate, spoiled_unit}
use Rattle.flt_ea.specs.declared.gate.Gate.{Gate}
use Rattle.flt_ea.specs.declared.place.Held.{Held}

-- ---- the next write of a block

-- The current place of block 8, with a gate of this sequence number.
abbrev pub held_at : ℕ → ℕ → Option Held
held_at place sequence = Some (record { place = place; gate = record { block = 8; length = 1; valid = true; sequence = sequence } })

-- The first write of a block goes to place 0 with number 1. Each later one goes to the place that is not current, with the number after the
-- current one.
pub record NextWrites : Type 0 where
  pub places : map next_place (None ∷ held_at 0 7 ∷ held_at 1 7 ∷ []) ≡ 0 ∷ 1 ∷ 0 ∷ []
  pub sequences : map next_sequence (None ∷ held_at 0 7 ∷ held_at 1 7 ∷ []) ≡ 1 ∷ 8 ∷ 8 ∷ []

-- ---- gates, byte by byte

-- A gate of block 0x0102 with 128 bytes, and one that has none.
abbrev pub long_gate : Gate
long_gate = record { block = 0x0102; length = 128; valid = true; sequence = 0x03040506 }

abbrev pub no_bytes : Gate
no_bytes = record { block = 0x0102; length = 0; valid = false; sequence = 0x03040506 }

-- Bytes of a gate: its tag, its kind, the lower byte of its length and that of its number, and the byte after them.
abbrev pub of_block_8 : ℕ → ℕ → ℕ → ℕ → ℕ → List ℕ
of_block_8 tag kind count sequence filler =
    tag ∷ kind ∷ 0x00 ∷ 0x08 ∷ 0x00 ∷ count ∷ 0x00 ∷ 0x00 ∷ 0x00 ∷ sequence ∷ filler ∷ replicate 5 0x00

-- A gate says 01 where its block has bytes and 02 where it is invalid, here in the unit of block 8 with number 2, too. A valid one has 1 to 128
-- bytes and an invalid one none; the number is at least 1.
pub record GatesInBytes : Type 0 where
  pub valid : gate_bytes long_gate
      ≡ 0x45 ∷ 0x01 ∷ 0x01 ∷ 0x02 ∷ 0x00 ∷ 0x80 ∷ 0x03 ∷ 0x04 ∷ 0x05 ∷ 0x06 ∷ 0x00 ∷ 0x00 ∷ 0x00 ∷ 0x00 ∷ 0x00 ∷ 0x00 ∷ []
  pub invalid : gate_bytes no_bytes
      ≡ 0x45 ∷ 0x02 ∷ 0x01 ∷ 0x02 ∷ 0x00 ∷ 0x00 ∷ 0x03 ∷ 0x04 ∷ 0x05 ∷ 0x06 ∷ 0x00 ∷ 0x00 ∷ 0x00 ∷ 0x00 ∷ 0x00 ∷ 0x00 ∷ []
  pub invalid_unit : has_none 8 2
      ≡ 0x45 ∷ 0x02 ∷ 0x00 ∷ 0x08 ∷ 0x00 ∷ 0x00 ∷ 0x00 ∷ 0x00 ∷ 0x00 ∷ 0x02 ∷ 0x00 ∷ 0x00 ∷ 0x00 ∷ 0x00 ∷ 0x00 ∷ 0x00
      ∷ 0xBA ∷ 0xFD ∷ 0xFF ∷ 0xF7 ∷ 0xFF ∷ 0xFF ∷ 0xFF ∷ 0xFF ∷ 0xFF ∷ 0xFD ∷ 0xFF ∷ 0xFF ∷ 0xFF ∷ 0xFF ∷ 0xFF ∷ 0xFF ∷ []
  pub read : map gate_of
      ((0x45 ∷ 0x01 ∷ 0x01 ∷ 0x02 ∷ 0x00 ∷ 0x80 ∷ 0x03 ∷ 0x04 ∷ 0x05 ∷ 0x06 ∷ replicate 6 0x00)
      ∷ (0x45 ∷ 0x02 ∷ 0x01 ∷ 0x02 ∷ 0x00 ∷ 0x00 ∷ 0x03 ∷ 0x04 ∷ 0x05 ∷ 0x06 ∷ replicate 6 0x00)
      ∷ of_block_8 0x45 0x01 1 1 0x00
      ∷ [])
      ≡ Some long_gate ∷ Some no_bytes ∷ Some (record { block = 8; length = 1; valid = true; sequence = 1 }) ∷ []
  pub refused : map gate_of
      (of_block_8 0x45 0x01 1 0 0x00
      ∷ of_block_8 0x45 0x02 0 0 0x00
      ∷ of_block_8 0x45 0x01 0 1 0x00
      ∷ of_block_8 0x45 0x01 129 1 0x00
      ∷ of_block_8 0x45 0x02 1 1 0x00
      ∷ of_block_8 0x45 0x03 0 1 0x00
      ∷ of_block_8 0x45 0x00 0 1 0x00
      ∷ of_block_8 0x48 0x01 1 1 0x00
      ∷ of_block_8 0x45 0x01 1 1 0x01
      ∷ [])
      ≡ replicate 9 None

-- ---- what places hold

-- The unit of a gate of one byte.
abbrev pub written_unit : ℕ → ℕ → List ℕ
written_unit block sequence = sealed (0x45 ∷ 0x01 ∷ 0x00 ∷ block ∷ 0x00 ∷ 0x01 ∷ 0x00 ∷ 0x00 ∷ 0x00 ∷ sequence ∷ replicate 6 0x00)

-- Four units of bytes, all of which the first place of block 9 needs.
abbrev pub four_pieces : List ℕ
four_pieces = replicate 32 1 ++ replicate 32 2 ++ replicate 32 3 ++ replicate 32 4

-- Place 0 of block 8 is newer than its place 1, and block 9 has 128 bytes.
abbrev pub two_blocks : List (List (List ℕ))
two_blocks =
    (place (written_unit 8 3) (plain_unit (33 ∷ []) ∷ []) ++ place (written_unit 8 2) (plain_unit (22 ∷ []) ∷ [])
    ++ place (sealed (0x45 ∷ 0x01 ∷ 0x00 ∷ 0x09 ∷ 0x00 ∷ 0x80 ∷ 0x00 ∷ 0x00 ∷ 0x00 ∷ 0x01 ∷ replicate 6 0x00))
    (replicate 32 1 ∷ replicate 32 2 ∷ replicate 32 3 ∷ replicate 32 4 ∷ [])
    ++ empty) ∷ []

-- The greater number counts, at either place, and all four units of bytes are of the block.
abbrev pub PlacesHold : Type 0
PlacesHold = map (value_in (8 ∷ 9 ∷ []) two_blocks) (8 ∷ 9 ∷ []) ≡ bytes (33 ∷ []) ∷ bytes four_pieces ∷ []

-- ---- damage

-- Place 1 is judged as place 0 is: the gate of another block and a code word that is no gate are damage there, and so is a gate of number 0 at
-- either place. Each is reported by the place and the position of its block. A newer place 0 is no damage.
pub record DamageOfPlaces : Type 0 where
  pub second_place : map damage
      (gates (written_unit 8 1) (written_unit 9 2) spoiled_unit spoiled_unit
      ∷ gates (written_unit 8 1) no_gate spoiled_unit spoiled_unit
      ∷ gates torn_unit no_gate spoiled_unit spoiled_unit
      ∷ gates (written_unit 8 1) (written_unit 8 2) (written_unit 9 1) (written_unit 8 2)
      ∷ gates (written_unit 8 1) (written_unit 8 2) torn_unit no_gate
      ∷ [])
      ≡ Some (1, 0) ∷ Some (1, 0) ∷ Some (1, 0) ∷ Some (1, 1) ∷ Some (1, 1) ∷ []
  pub number_zero : map damage
      (gates (written_unit 8 0) spoiled_unit spoiled_unit spoiled_unit
      ∷ gates (written_unit 8 1) (written_unit 8 0) spoiled_unit spoiled_unit
      ∷ gates torn_unit torn_unit (written_unit 9 0) spoiled_unit
      ∷ gates torn_unit torn_unit (written_unit 9 1) (written_unit 9 0)
      ∷ [])
      ≡ Some (0, 0) ∷ Some (1, 0) ∷ Some (0, 1) ∷ Some (1, 1) ∷ []
  pub none : damage (gates (written_unit 8 2) (written_unit 8 1) (written_unit 9 1) (written_unit 9 2)) ≡ None

-- ---- the units that arms mute

-- A sector counts 1024 units: page 3 of sector 1 is unit 1027. Unit 65535 is the last one, and a mute of a page beyond stays as it was, as other
-- arms do.
abbrev pub MutedUnits : Type 0
MutedUnits =
    map in_units
    (Mute 0 1023 2 ∷ Mute 1 0 2 ∷ Mute 1 3 2 ∷ Mute 2 3 5 ∷ Mute 63 1023 1 ∷ Mute 63 1024 1 ∷ Mute 64 0 1 ∷ Cut 3 Tail ∷ Fault 2 Odd ∷ [])
    ≡ Mute 0 1023 2 ∷ Mute 0 1024 2 ∷ Mute 0 1027 2 ∷ Mute 0 2051 5 ∷ Mute 0 65535 1 ∷ Mute 63 1024 1 ∷ Mute 64 0 1 ∷ Cut 3 Tail ∷ Fault 2 Odd ∷ []
