-- The worked bound of an input.
use Rattle.std.specs.Prelude.{◌≡◌, ℕ, List, [], length, Some}
use Rattle.flt_filter.specs.Verdict.{HasCome, Inside, too_many, whole}

-- A source had these bytes, and all were read.
abbrev pub read_whole : List ℕ → Inside
read_whole bytes = record { left = Some bytes; left_after = Some []; faults = 0; faults_after = 0 }

-- An input of 16,777,216 bytes is taken whole and is not too large; with one more it is too large and is not taken.
pub record LargestInput : Type 0 where
  pub most_is_taken : (bytes : List ℕ) → length bytes ≡ 16777216 → HasCome (read_whole bytes) (whole bytes)
  pub most_is_not_large : (bytes : List ℕ) → length bytes ≡ 16777216 → ¬ HasCome (read_whole bytes) too_many
  pub one_more_is_large : (bytes : List ℕ) → length bytes ≡ 16777217 → HasCome (read_whole bytes) too_many
  pub one_more_is_not_taken : (bytes : List ℕ) → length bytes ≡ 16777217 → ¬ HasCome (read_whole bytes) (whole bytes)
