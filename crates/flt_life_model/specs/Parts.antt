-- The parts of a life: the steps that lane 0 makes outside blocks, and the lanes of its blocks.
use Rattle.std.specs.Prelude.{ℕ, ◌+◌, ◌≤◌, List, [], ◌∷◌, ◌++◌, map, length, sum_by, All, IsTrue}
use Rattle.std.proofs.Common.{inl, inr}
use Rattle.flt_config.specs.declared.config.Config.{Config}
use Rattle.flt_step.specs.declared.step.Step.{Step}
use Rattle.flt_step.specs.Part.{PartOf}
use Rattle.flt_step.specs.Step.{is_lane_step, store_lanes, steps_of_part}
use Rattle.flt_life_model.specs.declared.action.Action.{Action}
use Rattle.flt_life_model.specs.Actions.{action_of, IsPossible, arm_count, call_count, queue_count}

-- The steps of lane 0, in order.
abbrev pub own_steps : {T : Type 0} → List (PartOf T) → List T
own_steps [] = []
own_steps (inl step ∷ parts) = step ∷ own_steps parts
own_steps (inr lanes ∷ parts) = own_steps parts

-- The lanes of all blocks, in order.
abbrev pub lanes_in : {T : Type 0} → List (PartOf T) → List (List T)
lanes_in [] = []
lanes_in (inl step ∷ parts) = lanes_in parts
lanes_in (inr lanes ∷ parts) = lanes ++ lanes_in parts

-- The number of lanes of the block of a part, and of all parts.
abbrev pub width : {T : Type 0} → PartOf T → ℕ
width (inl step) = 0
width (inr lanes) = length lanes

abbrev pub widths : {T : Type 0} → List (PartOf T) → ℕ
widths [] = 0
widths (part ∷ parts) = width part + widths parts

-- What the steps of lane 0 do.
abbrev pub own_actions : List (PartOf Step) → List Action
own_actions parts = map action_of (own_steps parts)

-- The numbers of each step are in their ranges; no lane arms, and at most one lane of a block saves, drains or gets.
abbrev pub IsPossibleInLane : Config → Step → Type 0
IsPossibleInLane c step = IsTrue (is_lane_step step) × IsPossible c (action_of step)

abbrev pub IsPossiblePart : Config → PartOf Step → Type 0
IsPossiblePart c (inl step) = IsPossible c (action_of step)
IsPossiblePart c (inr lanes) = All (λ lane. All (IsPossibleInLane c) lane) lanes × (store_lanes lanes ≤ 1)

-- The number of calls that steps make at most of the status machine, and of the queue.
abbrev pub calls_of : List Step → ℕ
calls_of steps = sum_by (λ step. call_count (action_of step)) steps

abbrev pub queued_of : List Step → ℕ
queued_of steps = sum_by (λ step. queue_count (action_of step)) steps

-- The same of a part.
abbrev pub calls_in : PartOf Step → ℕ
calls_in (inl step) = call_count (action_of step)
calls_in (inr lanes) = sum_by calls_of lanes

abbrev pub queued_in : PartOf Step → ℕ
queued_in (inl step) = queue_count (action_of step)
queued_in (inr lanes) = sum_by queued_of lanes

-- The number of steps of a part.
abbrev pub steps_in : PartOf Step → ℕ
steps_in part = steps_of_part part

-- The number of arms that a part makes.
abbrev pub arms_in : PartOf Step → ℕ
arms_in (inl step) = arm_count (action_of step)
arms_in (inr lanes) = 0
