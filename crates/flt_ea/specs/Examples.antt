-- Worked units of an EEPROM, written as bytes.
use Rattle.std.specs.Prelude.{◌≡◌, ℕ, ◌-◌, ◌^◌, true, false, List, [], ◌∷◌, ◌++◌, length, replicate, map, Option, Some, None}
use Rattle.flt_flash.specs.Image.{blank_page}
use Rattle.flt_flash.specs.Content.{missing, invalid, bytes}
use Rattle.flt_code.specs.Seal.{sealed}
use Rattle.flt_ea.specs.Gate.{gate_bytes}
use Rattle.flt_ea.specs.Image.{value_in, damage_in, is_spent_in, is_stuck_in}

-- ---- how worked units are written

-- The unit of the gate of a block that has this many bytes, and of one that is invalid.
abbrev pub has : ℕ → ℕ → ℕ → List ℕ
has block count sequence = sealed (gate_bytes (record { block = block; length = count; valid = true; sequence = sequence }))

abbrev pub has_none : ℕ → ℕ → List ℕ
has_none block sequence = sealed (gate_bytes (record { block = block; length = 0; valid = false; sequence = sequence }))

-- A unit of plain bytes, filled up with FF.
abbrev pub plain_unit : List ℕ → List ℕ
plain_unit some = some ++ replicate (32 - length some) 0xFF

-- A unit of which the first two bytes were written before the power was cut.
abbrev pub torn_unit : List ℕ
torn_unit = plain_unit (0x45 ∷ 0x01 ∷ [])

-- A place: its gate unit and four units of bytes, of which these are the first.
abbrev pub place : List ℕ → List (List ℕ) → List (List ℕ)
place gate pieces = gate ∷ pieces ++ replicate (4 - length pieces) blank_page

abbrev pub empty : List (List ℕ)
empty = place blank_page []

-- ---- a gate, byte by byte

-- Block 8 with one byte under sequence number 2.
abbrev pub GateInBytes : Type 0
GateInBytes = has 8 1 2 ≡
    0x45 ∷ 0x01 ∷ 0x00 ∷ 0x08 ∷ 0x00 ∷ 0x01 ∷ 0x00 ∷ 0x00 ∷ 0x00 ∷ 0x02 ∷ 0x00 ∷ 0x00 ∷ 0x00 ∷ 0x00 ∷ 0x00 ∷ 0x00
    ∷ 0xBA ∷ 0xFE ∷ 0xFF ∷ 0xF7 ∷ 0xFF ∷ 0xFE ∷ 0xFF ∷ 0xFF ∷ 0xFF ∷ 0xFD ∷ 0xFF ∷ 0xFF ∷ 0xFF ∷ 0xFF ∷ 0xFF ∷ 0xFF ∷ []

-- ---- what units hold

abbrev pub five_blocks : List ℕ
five_blocks = 8 ∷ 9 ∷ 10 ∷ 11 ∷ 12 ∷ []

-- The places of blocks 8 to 11: the third write of block 8 was cut in its bytes, and the second one of block 9 in its gate; block 10 was
-- made invalid, and block 11 was never written.
abbrev pub four_places : List (List ℕ)
four_places =
    place blank_page (torn_unit ∷ []) ++ place (has 8 1 2) (plain_unit (2 ∷ []) ∷ [])
    ++ place (has 9 40 1) (plain_unit (replicate 32 7) ∷ plain_unit (replicate 8 7) ∷ []) ++ place torn_unit (plain_unit (5 ∷ []) ∷ [])
    ++ place (has 10 1 1) (plain_unit (1 ∷ []) ∷ []) ++ place (has_none 10 2) []
    ++ empty ++ empty

-- An image whose block 12 was written under this sequence number.
abbrev pub with_last : ℕ → List (List (List ℕ))
with_last sequence = (four_places ++ place (has 12 1 sequence) (plain_unit (9 ∷ []) ∷ []) ++ empty) ∷ []

-- Each block has what its current place has. One sequence number before the last nothing is spent; with the last one block 12 is stuck, and
-- no other is.
pub record EachBlock : Type 0 where
  pub contents : map (value_in five_blocks (with_last 7)) five_blocks
      ≡ bytes (2 ∷ []) ∷ bytes (replicate 40 7) ∷ invalid ∷ missing ∷ bytes (9 ∷ []) ∷ []
  pub undamaged : damage_in five_blocks (with_last 7) ≡ None
  pub unspent : is_spent_in five_blocks (with_last (2 ^ 32 - 2)) ≡ false
  pub spent : is_spent_in five_blocks (with_last (2 ^ 32 - 1)) ≡ true
  pub stuck : map (is_stuck_in five_blocks (with_last (2 ^ 32 - 1))) five_blocks ≡ false ∷ false ∷ false ∷ false ∷ true ∷ []

-- ---- damage

-- The gate units of the two places of block 8 and of block 9.
abbrev pub gates : List ℕ → List ℕ → List ℕ → List ℕ → List (List (List ℕ))
gates first second third fourth = (place first [] ++ place second [] ++ place third [] ++ place fourth []) ∷ []

abbrev pub damage : List (List (List ℕ)) → Option (ℕ × ℕ)
damage image = damage_in (8 ∷ 9 ∷ []) image

-- A code word that is no gate.
abbrev pub no_gate : List ℕ
no_gate = sealed (replicate 16 0)

-- A unit of which a bit and its complement are both 0.
abbrev pub spoiled_unit : List ℕ
spoiled_unit = replicate 32 0

-- The first damaged place is reported, as the place and the position of its block; a torn unit is no damage.
pub record FirstDamage : Type 0 where
  pub other_block : damage (gates (has 9 1 1) spoiled_unit spoiled_unit spoiled_unit) ≡ Some (0, 0)
  pub not_a_gate : damage (gates no_gate spoiled_unit spoiled_unit spoiled_unit) ≡ Some (0, 0)
  pub both_zero : damage (gates (has 8 1 1) spoiled_unit spoiled_unit spoiled_unit) ≡ Some (1, 0)
  pub same_sequence : damage (gates (has 8 1 1) (has_none 8 1) spoiled_unit spoiled_unit) ≡ Some (1, 0)
  pub next_block : damage (gates (has 8 1 1) (has 8 1 2) spoiled_unit spoiled_unit) ≡ Some (0, 1)
  pub last : damage (gates (has 8 1 1) torn_unit (has_none 9 4) (has 9 1 4)) ≡ Some (1, 1)
  pub none : damage (gates torn_unit (has 8 1 2) torn_unit torn_unit) ≡ None
