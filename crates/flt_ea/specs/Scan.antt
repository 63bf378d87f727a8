-- What reads of an EEPROM leave.
use Rattle.std.specs.Prelude.{◌≡◌, ◌<◌, ℕ, List, Option, None, slice_index_or}
use Rattle.flt_ea.specs.Image.{current_place}
use Rattle.flt_ea.specs.declared.place.Held.{Held}

-- The table has the current place of each position below this one.
abbrev pub IsTable : ℕ → List (List ℕ) → List (Option Held) → Type 0
IsTable end units table = (position : ℕ) → position < end → slice_index_or table position None ≡ current_place units position
