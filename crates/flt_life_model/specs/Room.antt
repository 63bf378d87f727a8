-- The room that a life has for its answers.
use Rattle.std.specs.Prelude.{◌≡◌, ℕ, ◌+◌, ◌≤◌, List, [], All, length, map, sum_by, vec_len}
use Rattle.std.specs.Vec.{vec_capacity}
use Rattle.flt_step.specs.declared.step.Step.{Step}
use Rattle.flt_step.specs.Part.{PartOf}
use Rattle.flt_life_model.specs.declared.replies.LaneReplies.{LaneReplies}
use Rattle.flt_life_model.specs.declared.room.LaneRoom.{LaneRoom}
use Rattle.flt_life_model.specs.declared.room.LifeRoom.{LifeRoom}
use Rattle.flt_life_model.specs.Actions.{action_of, response_size}
use Rattle.flt_life_model.specs.Answers.{Told, byte_room, told_by}
use Rattle.flt_life_model.specs.Parts.{own_steps, lanes_in, widths}

-- The answers that a lane has.
abbrev pub told_in : LaneReplies → List Told
told_in replies = told_by replies.responses.items replies.answers.items

-- The bytes of the longest answers to steps.
abbrev pub sizes_of : List Step → ℕ
sizes_of steps = sum_by response_size (map action_of steps)

-- No answer.
pub record IsEmpty (replies : LaneReplies) : Type 0 where
  pub answers : replies.answers.items ≡ []
  pub responses : replies.responses.items ≡ []

-- There is room for the answers to these steps.
pub record HasRoomForSteps (replies : LaneReplies) (steps : List Step) : Type 0 where
  pub answers : vec_len replies.answers + length steps ≤ vec_capacity replies.answers
  pub responses : vec_len replies.responses + sizes_of steps ≤ byte_room replies.responses

-- A lane without answers, and with room for one to each of its steps.
pub record IsLaneRoom (lane : LaneRoom) : Type 0 where
  pub empty : IsEmpty lane.replies
  pub room : HasRoomForSteps lane.replies lane.steps.now

-- The steps of lanes.
abbrev pub steps_of : List LaneRoom → List (List Step)
steps_of rooms = map (λ room. room.steps.now) rooms

-- There is room for all answers of a life with these parts.
pub record IsLifeRoom (parts : List (PartOf Step)) (room : LifeRoom) : Type 0 where
  pub own_empty : IsEmpty room.own
  pub own_room : HasRoomForSteps room.own (own_steps parts)
  pub lanes_are : steps_of room.lanes.items ≡ lanes_in parts
  pub ready : All IsLaneRoom room.lanes.items
  pub none_told : (room.told.items ≡ []) × (vec_len room.told ≡ 0)
  pub told_room : widths parts ≤ vec_capacity room.told
  pub no_replies : (room.replies.items ≡ []) × (vec_len room.replies ≡ 0)
  pub replies_room : widths parts + 1 ≤ vec_capacity room.replies
