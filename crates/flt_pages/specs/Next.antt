-- Numbers in ascending order, one after the other.
use Rattle.std.specs.Prelude.{◌<◌, ◌≤◌, ℕ, List, length, Option, IfSome, IfNone, Contains, slice_index}

-- The least of the numbers from a number on, if there is one.
pub record IsLeastFrom (from : ℕ) (numbers : List ℕ) (next : Option ℕ) : Type 0 where
  -- If there is one, it is among the numbers, and none from there on is less.
  pub found : IfSome next (λ number. Contains numbers number × (from ≤ number)
      × ((k : ℕ) → k < length numbers → from ≤ slice_index numbers k → number ≤ slice_index numbers k))
  -- If there is none, all numbers are less.
  pub none : IfNone next ((k : ℕ) → k < length numbers → slice_index numbers k < from)
