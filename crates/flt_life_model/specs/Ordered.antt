-- The deeds of a life: the steps that touch the store, each with its answer, in the order of the script, those of a block lane by
-- lane. At most one lane of a block touches the store, so this is the order in which they were done.
use Rattle.std.specs.Prelude.{Bool, true, false, List, [], ◌∷◌, ◌++◌, length, take, drop}
use Rattle.std.proofs.Common.{inl, inr}
use Rattle.flt_step.specs.declared.step.Step.{Step}
use Rattle.flt_step.specs.Part.{PartOf}
use Rattle.flt_step.specs.Step.{is_store_step}
use Rattle.flt_life_model.specs.Answers.{Told}

abbrev pub Deed : Type 0
Deed = Step × Told

-- One more step before these, if it touches the store.
abbrev pub deed_if : Bool → Step → Told → List Deed → List Deed
deed_if true step told deeds = (step, told) ∷ deeds
deed_if false step told deeds = deeds

abbrev pub with_deed : Step → Told → List Deed → List Deed
with_deed step told deeds = deed_if (is_store_step step) step told deeds

-- The deeds of a lane.
abbrev pub lane_deeds : List Step → List Told → List Deed
lane_deeds [] told = []
lane_deeds (step ∷ steps) [] = []
lane_deeds (step ∷ steps) (answer ∷ told) = with_deed step answer (lane_deeds steps told)

-- Of the lanes of a block.
abbrev pub block_deeds : List (List Step) → List (List Told) → List Deed
block_deeds [] told = []
block_deeds (steps ∷ lanes) [] = []
block_deeds (steps ∷ lanes) (answers ∷ told) = lane_deeds steps answers ++ block_deeds lanes told

-- Of all parts, by the answers of lane 0 and those of the other lanes.
abbrev pub deeds_in : List (PartOf Step) → List Told → List (List Told) → List Deed
deeds_in [] own lanes = []
deeds_in (inl step ∷ parts) [] lanes = deeds_in parts [] lanes
deeds_in (inl step ∷ parts) (answer ∷ own) lanes = with_deed step answer (deeds_in parts own lanes)
deeds_in (inr block ∷ parts) own lanes = block_deeds block (take (length block) lanes) ++ deeds_in parts own (drop (length block) lanes)
