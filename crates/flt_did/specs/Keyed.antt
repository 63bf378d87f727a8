-- Rows in optional places, and those that a key finds.
use Rattle.std.specs.Prelude.{ℕ, Bool, ◌==◌, List, Option, filter_map}

-- The rows without the empty places.
abbrev pub filled : {A : Type 0} → List (Option A) → List A
filled rows = filter_map (λ row. row) rows

-- A row has this key.
abbrev pub has_key : {A : Type 0} → (A → ℕ) → ℕ → A → Bool
has_key key_of key row = key_of row == key
