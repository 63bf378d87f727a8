-- The values that subscribers keep, by their kind (this profile).
use Rattle.std.specs.Prelude.{ℕ, suc, ◌+◌, ◌*◌, ◌-◌, ◌^◌, ◌%◌, ◌<◌, ◌==◌, min, if◌then◌else◌, List, [], ◌∷◌, fold}
use Rattle.flt_model.specs.Start.{Start, History}
use Rattle.flt_notify.specs.declared.change.Change.{Change}
use Rattle.flt_notify.specs.Changes.{changes}

-- The event's number has 16 bits, and each status byte 8.
pub record IsInRange (change : Change) : Type 0 where
  -- The number of the event has 16 bits.
  pub event : change.event < 65536
  -- The byte before has 8 bits.
  pub before : change.before < 256
  -- So has the byte after.
  pub after : change.after < 256

-- A change as one number of 32 bits.
abbrev pub word : Change → ℕ
word change = change.event * 65536 + change.before * 256 + change.after

-- The value of a kind after a change more: kind 0 counts the changes, kind 1 is the last of them, and kind 2 a checksum of all.
abbrev pub next_value : ℕ → ℕ → Change → ℕ
next_value kind value change =
    if kind == 0 then min (value + 1) (2 ^ 32 - 1)
    else if kind == 1 then word change
    else (31 * value + word change) % 2 ^ 32

-- The value of a kind after these calls.
abbrev pub value_after : Start → History → ℕ → ℕ
value_after life past kind = fold (next_value kind) 0 (changes life past)

-- ---- of all three kinds

-- The values of the kinds from a number on, after a change more.
abbrev pub next_values : ℕ → List ℕ → Change → List ℕ
next_values kind [] change = []
next_values kind (value ∷ values) change = next_value kind value change ∷ next_values (suc kind) values change

-- The values of the three kinds after these calls.
abbrev pub values_after : Start → History → List ℕ
values_after life past = value_after life past 0 ∷ value_after life past 1 ∷ value_after life past 2 ∷ []
