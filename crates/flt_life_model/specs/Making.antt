-- Which calls the parts of a life make, by what they are answered: over any kind of steps, and any relation that says of one step,
-- its answer and some calls that the calls are those of the step.
use Rattle.std.specs.Prelude.{◌≡◌, ℕ, ◌+◌, List, [], ◌∷◌, ◌++◌}
use Rattle.std.proofs.Common.{inl, inr}
use Rattle.flt_step.specs.Part.{PartOf}
use Rattle.flt_fork.specs.Making.{LanesMake}
use Rattle.flt_fork.specs.Mixing.{Call, Block}
use Rattle.flt_life_model.specs.Parts.{width}

module _ {T A O R : Type 0} (MadeBy : T → A → List (Call O R) → Type 0) where
  -- The calls of a part, with its answers: those of lane 0, and those of the lanes of its block.
  abbrev pub PartMakes : ℕ → PartOf T → List A → List (List A) → Block O R → Type 0
  PartMakes number (inl step) own lanes made =
      (answer : A) × (calls : List (Call O R)) × (own ≡ answer ∷ []) × (lanes ≡ []) × (made ≡ (0, calls) ∷ []) × MadeBy step answer calls
  PartMakes number (inr steps) own lanes made = (own ≡ []) × LanesMake MadeBy number steps lanes made

  -- The calls of all parts, with the answers by lane: a part has the first of the answers that the parts before it left.
  unfoldable pub PartsMake : ℕ → List (PartOf T) → List A → List (List A) → List (Block O R) → Type 0
  PartsMake number [] own lanes blocks = (own ≡ []) × (lanes ≡ []) × (blocks ≡ [])
  PartsMake number (part ∷ parts) own lanes blocks =
      (mine : List A) × (later : List A) × (others : List (List A)) × (more : List (List A)) × (made : Block O R) × (rest : List (Block O R))
      × (own ≡ mine ++ later) × (lanes ≡ others ++ more) × (blocks ≡ made ∷ rest) × PartMakes number part mine others made
      × PartsMake (number + width part) parts later more rest
