-- The status byte and its bits (ISO 14229-1).
use Rattle.std.specs.Prelude.{ℕ, ◌+◌, ◌*◌, ◌==◌, Bool, if◌then◌else◌}
use Rattle.std.specs.Int.{bit_at}
use Rattle.flt_model.specs.declared.status.Status.{Status}

-- A bit as a number.
abbrev pub value_of : Bool → ℕ
value_of bit = if bit then 1 else 0

-- The byte of eight bits (ISO 14229-1, DTC status bits), testFailed the lowest.
abbrev pub byte_of : Status → ℕ
byte_of s =
    value_of s.test_failed + 2 * value_of s.failed_this_cycle + 4 * value_of s.pending + 8 * value_of s.confirmed
    + 16 * value_of s.not_completed_since_clear + 32 * value_of s.failed_since_clear
    + 64 * value_of s.not_completed_this_cycle + 128 * value_of s.indicator_requested

-- A bit of a byte, counted from the lowest, is 1.
abbrev pub is_bit_set : ℕ → ℕ → Bool
is_bit_set byte k = bit_at byte k == 1

-- The bits of a byte.
abbrev pub status_of : ℕ → Status
status_of byte = record {
  test_failed = is_bit_set byte 0;
  failed_this_cycle = is_bit_set byte 1;
  pending = is_bit_set byte 2;
  confirmed = is_bit_set byte 3;
  not_completed_since_clear = is_bit_set byte 4;
  failed_since_clear = is_bit_set byte 5;
  not_completed_this_cycle = is_bit_set byte 6;
  indicator_requested = is_bit_set byte 7;
}
