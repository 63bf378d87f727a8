-- The lines of a life: how it began, and its parts, as far as their steps were answered.
use Rattle.std.specs.Prelude.{ℕ, ◌+◌, List, Vec, [], ◌∷◌, ◌++◌, drop, length, map}
use Rattle.std.proofs.Common.{inl, inr}
use Rattle.flt_step.specs.Part.{PartOf}
use Rattle.flt_step.specs.declared.step.Step.{Step}
use Rattle.flt_life_model.specs.declared.life.Boot.{Boot}
use Rattle.flt_life_model.specs.declared.life.Boot.TheVariants.{Started, Dark, Refused}
use Rattle.flt_life_model.specs.declared.replies.LaneReplies.{LaneReplies}
use Rattle.flt_life_model.specs.Answers.{Told}
use Rattle.flt_life_model.specs.Room.{told_in}
use Rattle.flt_report.specs.Answer.{step_line}
use Rattle.flt_report.specs.Block.{par_line, lane_line, end_line}
use Rattle.flt_report.specs.Boot.{boot_line}

-- A line for each step that was answered.
unfoldable pub lines_text : List Step → List Told → List ℕ
lines_text [] told = []
lines_text (step ∷ steps) [] = []
lines_text (step ∷ steps) (answer ∷ answers) = step_line step answer ++ lines_text steps answers

-- The lines of a lane of this number.
abbrev pub lane_text : ℕ → List Step → List Told → List ℕ
lane_text number steps told = lane_line number ++ lines_text steps told

-- The lines of lanes, from this number on.
unfoldable pub lanes_text : ℕ → List (List Step) → List (List Told) → List ℕ
lanes_text number [] told = []
lanes_text number (steps ∷ lanes) [] = []
lanes_text number (steps ∷ lanes) (answers ∷ told) = lane_text number steps answers ++ lanes_text (number + 1) lanes told

-- The steps of lanes, without where they lie in memory.
abbrev pub lane_steps : {A : Type 0} → List (Vec Step A) → List (List Step)
lane_steps lanes = map (λ lane. lane.items) lanes

-- The lines of a block, whose lanes go on from this number.
abbrev pub block_text : ℕ → List (List Step) → List (List Told) → List ℕ
block_text number lanes told = par_line ++ (lanes_text number lanes told ++ end_line)

-- The lines of parts, with the answers of lane 0 and those of the other lanes, whose numbers go on from this one.
unfoldable pub parts_text : ℕ → List (PartOf Step) → List Told → List (List Told) → List ℕ
parts_text number [] own told = []
parts_text number (inl step ∷ parts) [] told = []
parts_text number (inl step ∷ parts) (answer ∷ own) told = step_line step answer ++ parts_text number parts own told
parts_text number (inr lanes ∷ parts) own told = block_text number lanes told ++ parts_text (number + length lanes) parts own (drop (length lanes) told)

-- The lines of the parts of a life, with the answers of lane 0 and then those of the other lanes.
abbrev pub told_text : List (PartOf Step) → List LaneReplies → List ℕ
told_text parts [] = []
told_text parts (own ∷ told) = parts_text 1 parts (told_in own) (map told_in told)

-- The same by how the life began: a refused life makes none.
abbrev pub made_text : List (PartOf Step) → Boot → List LaneReplies → List ℕ
made_text parts (Started generation start) replies = told_text parts replies
made_text parts Dark replies = told_text parts replies
made_text parts (Refused fault) replies = []

-- The lines of a life of this number: how it began, and its parts.
abbrev pub life_text : ℕ → List (PartOf Step) → Boot → List LaneReplies → List ℕ
life_text number parts boot replies = boot_line number boot ++ made_text parts boot replies
