-- Which calls steps make, by what they are answered: over any kind of steps, and any relation that says of one step, its answer and some
-- calls that the calls are those of the step.
use Rattle.std.specs.Prelude.{◌≡◌, ℕ, ◌+◌, List, [], ◌∷◌, ◌++◌}
use Rattle.flt_fork.specs.Mixing.{Call, Block}

module _ {T A O R : Type 0} (MadeBy : T → A → List (Call O R) → Type 0) where
  -- The calls of steps that were answered so: those of each step after those of the steps before it.
  unfoldable pub AreMadeBy : List T → List A → List (Call O R) → Type 0
  AreMadeBy [] [] calls = calls ≡ []
  AreMadeBy [] (answer ∷ answers) calls = ⊥
  AreMadeBy (step ∷ steps) [] calls = ⊥
  AreMadeBy (step ∷ steps) (answer ∷ answers) calls =
      (first : List (Call O R)) × (rest : List (Call O R)) × (calls ≡ first ++ rest) × MadeBy step answer first × AreMadeBy steps answers rest

  -- The calls of lanes, whose numbers go on from this one.
  unfoldable pub LanesMake : ℕ → List (List T) → List (List A) → Block O R → Type 0
  LanesMake number [] [] made = made ≡ []
  LanesMake number [] (answers ∷ more) made = ⊥
  LanesMake number (steps ∷ lanes) [] made = ⊥
  LanesMake number (steps ∷ lanes) (answers ∷ more) made =
      (calls : List (Call O R)) × (rest : Block O R) × (made ≡ (number, calls) ∷ rest) × AreMadeBy steps answers calls × LanesMake (number + 1) lanes more rest
