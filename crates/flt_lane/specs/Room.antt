-- What is ready before a life begins.
use Rattle.std.specs.Prelude.{◌≡◌, ℕ, ◌≤◌, List, [], ◌∷◌, All, length, map, sum_by, vec_len}
use Rattle.std.proofs.Common.{inl, inr}
use Rattle.std.specs.Vec.{vec_capacity}
use Rattle.flt_config.specs.declared.config.Config.{Config}
use Rattle.flt_step.specs.declared.step.Step.{Step}
use Rattle.flt_step.specs.Part.{PartOf}
use Rattle.flt_step.specs.Step.{store_lanes}
use Rattle.flt_life_model.specs.Actions.{IsPossible, action_of}
use Rattle.flt_life_model.specs.Parts.{IsPossibleInLane, calls_of, queued_of}
use Rattle.flt_life_model.specs.Room.{IsLaneRoom, steps_of}
use Rattle.flt_lane.specs.Views.{BlockRoom}

-- The lanes are ready, with room for the seats of each.
pub record IsBlockRoom (block : BlockRoom) : Type 0 where
  -- There is room for the answers of each lane.
  pub ready : All IsLaneRoom block.lanes.items
  -- No lane has its seats yet.
  pub empty : block.works.items ≡ []
  -- Nor is one counted.
  pub none : vec_len block.works ≡ 0
  -- There is room for the seats of each.
  pub room : length block.lanes.items ≤ vec_capacity block.works

-- The steps of the lanes of a block.
abbrev pub lanes_of : BlockRoom → List (List Step)
lanes_of room = steps_of room.lanes.items

-- The lanes of each block, in order.
abbrev pub blocks_in : List (PartOf Step) → List (List (List Step))
blocks_in [] = []
blocks_in (inl step ∷ parts) = blocks_in parts
blocks_in (inr lanes ∷ parts) = lanes ∷ blocks_in parts

-- Each block of these parts has its room, in order.
pub record AreRoomsOf (parts : List (PartOf Step)) (rooms : List BlockRoom) : Type 0 where
  -- The rooms have the lanes of the blocks.
  pub lanes_are : map lanes_of rooms ≡ blocks_in parts
  -- Each is ready.
  pub ready : All IsBlockRoom rooms

-- How many calls lanes make at most of the status machine, and of the queue.
abbrev pub all_calls : List (List Step) → ℕ
all_calls lanes = sum_by calls_of lanes

abbrev pub all_queued : List (List Step) → ℕ
all_queued lanes = sum_by queued_of lanes

-- The steps of a lane are such as a lane can make, and are at most as many as a script has.
abbrev pub IsLaneFor : Config → List Step → Type 0
IsLaneFor config steps = All (IsPossibleInLane config) steps × (length steps ≤ 65536)

-- So are those of a part; and of the lanes of a block at most one touches the store.
abbrev pub IsPartFor : Config → PartOf Step → Type 0
IsPartFor config (inl step) = IsPossible config (action_of step)
IsPartFor config (inr lanes) = All (IsLaneFor config) lanes × (store_lanes lanes ≤ 1)
