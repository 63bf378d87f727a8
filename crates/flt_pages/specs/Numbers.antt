-- The block numbers of a driver, and their index.
use Rattle.std.specs.Prelude.{◌≡◌, ◌<◌, ℕ, List, length, map, Contains, slice_index}
use Rattle.std.specs.List.{All}
use Rattle.std.specs.List.Sorted.{IsNonDecreasingBy}
use Rattle.flt_pages.specs.declared.numbers.Row.{Row}
use Rattle.flt_pages.specs.declared.numbers.Numbers.TheInside.{Inside}

-- The numbers in the order in which they were given.
abbrev pub given_of : Inside → List ℕ
given_of a = a.given.items

-- A row names the number that is at its index.
pub record IsRowOf (numbers : List ℕ) (row : Row) : Type 0 where
  -- The index is that of a number.
  pub within : row.index < length numbers
  -- It is the index of the row's number.
  pub is : slice_index numbers row.index ≡ row.number

-- The rows are in ascending order of their numbers, each names a number at its index, and each number has one row.
pub record IsIndex (numbers : List ℕ) (rows : List Row) : Type 0 where
  -- The rows ascend by their numbers.
  pub sorted : IsNonDecreasingBy (λ row. row.number) rows
  -- Each row names the number at its index.
  pub named : All (IsRowOf numbers) rows
  -- Each number has a row.
  pub whole : All (Contains (map (λ row. row.number) rows)) numbers

-- The rows are an index of the numbers.
abbrev pub IsIndexed : Inside → Type 0
IsIndexed a = IsIndex a.given.items a.rows.items
