-- A page that no program or erase of a code word can have left.
use Rattle.std.specs.Prelude.{ℕ, ◌+◌, ◌==◌, Bool, not, List, slice_index, bit_or}
use Rattle.std.specs.List.{list_any, range_with_len}

-- A bit of this byte and the same bit of the byte in the place of its complement are both 0.
abbrev pub is_spoiled_at : List ℕ → ℕ → Bool
is_spoiled_at page byte = not (bit_or (slice_index page byte) (slice_index page (16 + byte)) == 255)

-- A bit of the first half and the same bit of the second half are both 0.
unfoldable pub is_spoiled : List ℕ → Bool
is_spoiled page = list_any (is_spoiled_at page) (range_with_len 0 16)
