-- A step of a script: the ranges of its numbers, and where it is allowed; and how many there are of each kind.
use Rattle.std.specs.Prelude.{ℕ, List, Bool, true, false, ◌&&◌, nat_lt, nat_le, length, sum_by, count_by}
use Rattle.std.proofs.Common.{inl, inr}
use Rattle.std.specs.List.{list_all, list_any}
use Rattle.flt_config.specs.declared.config.Config.{Config}
use Rattle.flt_flash.specs.declared.arm.Arm.{Arm}
use Rattle.flt_flash.specs.declared.arm.Arm.TheVariants.{Cut, Fault, Mute}
use Rattle.flt_step.specs.declared.step.Step.{Step}
use Rattle.flt_step.specs.declared.step.Step.TheVariants as step
use Rattle.flt_step.specs.Part.{PartOf}

-- The numbers of a fault to be armed are in their ranges.
abbrev pub is_arm_in : Arm → Bool
is_arm_in (Cut after pattern) = nat_le 1 after && nat_le after 65535
is_arm_in (Fault after pattern) = nat_le 1 after && nat_le after 65535
is_arm_in (Mute sector page times) = nat_le sector 1 && nat_le page 1023 && nat_le 1 times && nat_le times 65535

-- The numbers of a step are in their ranges, under this configuration.
abbrev pub is_step_in : Config → Step → Bool
is_step_in config (step.Report event report) = nat_lt event (length config.events.items)
is_step_in config (step.Show event) = nat_lt event (length config.events.items)
is_step_in config (step.Cycle cycle) = nat_le cycle 3
is_step_in config (step.Tick ticks) = nat_le 1 ticks && nat_le ticks 65535
is_step_in config (step.Signal index value) = nat_le index 7 && nat_le value 65535
is_step_in config (step.Enable condition fulfilled) = nat_le condition 7
is_step_in config (step.Request tester bytes) = nat_le tester 3 && nat_lt 0 (length bytes.items)
is_step_in config step.Save = true
is_step_in config (step.Post urgent block bytes) = nat_lt block config.blocks && nat_lt 0 (length bytes.items) && nat_le (length bytes.items) 32
is_step_in config step.Drain = true
is_step_in config (step.Get block) = nat_lt block config.blocks
is_step_in config (step.Ask block) = nat_lt block config.blocks
is_step_in config (step.Arming arm) = is_arm_in arm

-- A step that is allowed in a lane: none of cut, fault and mute.
abbrev pub is_lane_step : Step → Bool
is_lane_step (step.Arming arm) = false
is_lane_step _ = true

-- A step that uses the store: save, drain and get. At most one lane of a block has any.
abbrev pub is_store_step : Step → Bool
is_store_step step.Save = true
is_store_step step.Drain = true
is_store_step (step.Get block) = true
is_store_step _ = false

-- A lane has such a step.
abbrev pub has_store_step : List Step → Bool
has_store_step steps = list_any is_store_step steps

-- How many lanes have one.
abbrev pub store_lanes : List (List Step) → ℕ
store_lanes lanes = count_by has_store_step lanes

-- Each step of a lane is one that is allowed there, with its numbers in their ranges.
abbrev pub is_lane_in : Config → List Step → Bool
is_lane_in config steps = list_all (λ step. is_step_in config step && is_lane_step step) steps

-- A step with its numbers in their ranges, or 1 to 8 such lanes, of which at most one has a save, drain or get.
abbrev pub is_part_in : Config → PartOf Step → Bool
is_part_in config (inl step) = is_step_in config step
is_part_in config (inr lanes) =
    nat_le 1 (length lanes) && nat_le (length lanes) 8 && list_all (is_lane_in config) lanes && nat_le (store_lanes lanes) 1

-- Each part is so.
abbrev pub are_parts_in : Config → List (PartOf Step) → Bool
are_parts_in config parts = list_all (is_part_in config) parts

-- How many steps a part has, those of its lanes among them.
abbrev pub steps_of_part : PartOf Step → ℕ
steps_of_part (inl step) = 1
steps_of_part (inr lanes) = sum_by length lanes

-- How many steps parts have.
abbrev pub steps_of_parts : List (PartOf Step) → ℕ
steps_of_parts parts = sum_by steps_of_part parts

-- How many lanes a part has.
abbrev pub lanes_of_part : PartOf Step → ℕ
lanes_of_part (inl step) = 0
lanes_of_part (inr lanes) = length lanes

-- How many lanes parts have.
abbrev pub lanes_of_parts : List (PartOf Step) → ℕ
lanes_of_parts parts = sum_by lanes_of_part parts

-- How many of cut, fault and mute a step is: one or none.
abbrev pub arms_of_step : Step → ℕ
arms_of_step (step.Arming arm) = 1
arms_of_step _ = 0

-- How many of them a part has; lanes have none.
abbrev pub arms_of_part : PartOf Step → ℕ
arms_of_part (inl step) = arms_of_step step
arms_of_part (inr lanes) = 0

-- How many of them parts have.
abbrev pub arms_of_parts : List (PartOf Step) → ℕ
arms_of_parts parts = sum_by arms_of_part parts

-- How many drains a step is: one or none.
abbrev pub drain_count : Step → ℕ
drain_count step.Drain = 1
drain_count _ = 0

-- How many a lane has.
abbrev pub drains_of_lane : List Step → ℕ
drains_of_lane steps = sum_by drain_count steps

-- How many a part has, those of its lanes among them.
abbrev pub drains_of_part : PartOf Step → ℕ
drains_of_part (inl step) = drain_count step
drains_of_part (inr lanes) = sum_by drains_of_lane lanes

-- How many parts have.
abbrev pub drains_of_parts : List (PartOf Step) → ℕ
drains_of_parts parts = sum_by drains_of_part parts
