-- A text that is put after what a vector holds.
use Rattle.std.specs.Prelude.{◌≡◌, ℕ, ◌≤◌, ◌+◌, List, ◌++◌, take, Vec, vec_len, vec_capacity}
use Rattle.std.specs.Global.{Global}

-- The text was put, in at most this many bytes, and the vector has as much room as before, or more.
pub record Puts (old new : Vec ℕ Global) (text : List ℕ) (most : ℕ) : Type 0 where
  pub items : new.items ≡ old.items ++ text
  pub len : vec_len new ≤ vec_len old + most
  pub room : vec_capacity old ≤ vec_capacity new

-- The bytes grew by some front of the line.
abbrev pub GrowsByFront : List ℕ → List ℕ → List ℕ → Type 0
GrowsByFront old new line = (count : ℕ) × (new ≡ old ++ take count line)
