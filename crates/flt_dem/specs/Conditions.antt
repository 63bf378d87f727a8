-- The enable conditions, given by those that are not fulfilled.
use Rattle.std.specs.Prelude.{ℕ, Bool, not, List, [], ◌∷◌, map}
use Rattle.flt_model.specs.Byte.{is_bit_set}

-- Each condition is fulfilled but those whose bits are set in the byte.
abbrev pub all_but : ℕ → List Bool
all_but missing = map (λ c. not (is_bit_set missing c)) (0 ∷ 1 ∷ 2 ∷ 3 ∷ 4 ∷ 5 ∷ 6 ∷ 7 ∷ [])
