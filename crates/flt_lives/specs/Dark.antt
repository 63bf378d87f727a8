-- What a dark life does with the steps of lane 0, and with those of lanes, none of which it makes.
use Rattle.std.specs.Prelude.{◌≡◌, ◌+◌, ◌≤◌, ◌++◌, List, All, IsTrue, length, map, vec_len}
use Rattle.std.specs.Vec.{vec_capacity}
use Rattle.flt_step.specs.declared.step.Step.{Step}
use Rattle.flt_step.specs.Part.{PartOf}
use Rattle.flt_step.specs.Step.{is_lane_step}
use Rattle.flt_life_model.specs.declared.replies.LaneReplies.{LaneReplies}
use Rattle.flt_life_model.specs.Answers.{byte_room}
use Rattle.flt_life_model.specs.Parts.{own_actions, own_steps}
use Rattle.flt_life_model.specs.Played.{dark_answer}
use Rattle.flt_life_model.specs.Room.{told_in}

-- Each step may be in a lane.
abbrev pub IsLaneSteps : List Step → Type 0
IsLaneSteps steps = All (λ step. IsTrue (is_lane_step step)) steps

-- The answers of a dark life to the steps of lane 0 among these parts, after the earlier ones; none has a response.
pub record AddsDarkAnswers (parts : List (PartOf Step)) (before after : LaneReplies) : Type 0 where
  -- The dark answers of the steps come after those before.
  pub answers : told_in after ≡ told_in before ++ map dark_answer (own_actions parts)
  -- There is one a step.
  pub len : vec_len after.answers ≡ vec_len before.answers + length (own_steps parts)
  -- The list of answers has the room that it had.
  pub room : vec_capacity after.answers ≡ vec_capacity before.answers
  -- There are as many responses as before.
  pub responses : vec_len after.responses ≡ vec_len before.responses
  -- The room for responses is no less.
  pub bytes : byte_room before.responses ≤ byte_room after.responses
