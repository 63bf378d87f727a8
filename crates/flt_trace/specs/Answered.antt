-- The answers of a life as texts, one for each call of its journal.
use Rattle.std.specs.Prelude.{ℕ, List, [], ◌∷◌, length, map, replicate, slice_set, codes}
use Rattle.flt_model.specs.declared.call.Op.{Op}
use Rattle.flt_turn.specs.declared.vault.Entry.{Entry}
use Rattle.flt_life_model.specs.Answers.{Told}
use Rattle.flt_life_model.specs.Room.{told_in}
use Rattle.flt_life_model.specs.declared.answer.StepAnswer.TheVariants.{Dem}
use Rattle.flt_life_model.specs.declared.replies.LaneReplies.{LaneReplies}
use Rattle.flt_report.specs.Answer.{reply_text}

-- These texts with that of one answer more: a reply of the machine is at the place that it was given.
abbrev pub with_told : List (List ℕ) → Told → List (List ℕ)
with_told texts (Dem told) = slice_set texts told.place (reply_text told.reply)
with_told texts _ = texts

-- With those of a lane.
abbrev pub with_lane : List (List ℕ) → List Told → List (List ℕ)
with_lane texts [] = texts
with_lane texts (told ∷ lane) = with_lane (with_told texts told) lane

-- With those of all lanes.
abbrev pub with_lanes : List (List ℕ) → List (List Told) → List (List ℕ)
with_lanes texts [] = texts
with_lanes texts (lane ∷ lanes) = with_lanes (with_lane texts lane) lanes

-- The text of a call whose answer no step has, as a save makes them.
abbrev pub taken_text : List ℕ
taken_text = codes "taken"

-- The texts of the answers of a life: what its steps were answered, each at its place, and elsewhere that the call was taken.
abbrev pub answer_texts : List (Entry Op) → List LaneReplies → List (List ℕ)
answer_texts journal replies = with_lanes (replicate (length journal) taken_text) (map told_in replies)
