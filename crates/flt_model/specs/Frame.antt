-- The values of the data identifiers, and how a frame holds them (this profile).
use Rattle.std.specs.Prelude.{ℕ, ◌+◌, ◌-◌, ◌*◌, nat_lt, List, flat_map, slice_index, drop, min, Option, Some, None, unwrap_or, if◌then◌else◌, ◌==◌}
use Rattle.std.specs.Int.{w64, to_be_bytes}
use Rattle.flt_config.specs.declared.config.DidUse.{DidUse}

-- The values of the eight signals.
abbrev pub Values : Type 0
Values = List ℕ

-- One bit for each signal that is above 0.
abbrev pub active : Values → ℕ → ℕ
active values i = if nat_lt 0 (slice_index values i) then 1 else 0

-- Bit i says whether signal i is above 0.
abbrev pub active_bits : Values → ℕ
active_bits values =
    active values 0 + 2 * active values 1 + 4 * active values 2 + 8 * active values 3
    + 16 * active values 4 + 32 * active values 5 + 64 * active values 6 + 128 * active values 7

-- The value of each data identifier, if it is one of the seven.
abbrev pub did_value : ℕ → Values → Option ℕ
did_value id values =
    if id == 0x0101 then Some (slice_index values 0)
    else if id == 0x0102 then Some (slice_index values 1)
    else if id == 0x0103 then Some (min (slice_index values 2) 255)
    else if id == 0x0104 then Some (slice_index values 3 * 65536 + slice_index values 4)
    else if id == 0x0105 then Some (active_bits values)
    else if id == 0x0106 then Some (min (slice_index values 5 + slice_index values 6) 65535)
    else if id == 0x0107 then Some (((slice_index values 0 * 65536 + slice_index values 1) * 65536 + slice_index values 2) * 65536 + slice_index values 3)
    else None

-- The last bytes of the big-endian value, as many as the width.
abbrev pub big_endian : ℕ → ℕ → List ℕ
big_endian width value = drop (8 - width) (to_be_bytes w64 value)

-- The bytes of one data identifier, big-endian in its width.
abbrev pub did_bytes : Values → DidUse → List ℕ
did_bytes values did = big_endian did.width (unwrap_or (did_value did.id values) 0)

-- The bytes of the data identifiers, one after another.
abbrev pub frame_bytes : List DidUse → Values → List ℕ
frame_bytes dids values = flat_map (did_bytes values) dids
