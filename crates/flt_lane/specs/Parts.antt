-- What the parts of a life need, and what they leave.
use Rattle.std.specs.Prelude.{◌≡◌, ◌+◌, ◌<◌, ◌≤◌, ◌^◌, List, ◌∷◌, All, length, map, sum_by, vec_len}
use Rattle.std.specs.Vec.{vec_capacity}
use Rattle.flt_config.specs.declared.config.Config.{Config}
use Rattle.flt_step.specs.declared.step.Step.{Step}
use Rattle.flt_step.specs.declared.step.Part.{Part}
use Rattle.flt_step.specs.Part.{PartOf, parts_of}
use Rattle.flt_fork.specs.Lived.{IsMain}
use Rattle.flt_life_model.specs.Actions.{all_arms}
use Rattle.flt_life_model.specs.Ordered.{deeds_in}
use Rattle.flt_life_model.specs.Parts.{IsPossiblePart, arms_in, calls_in, own_actions, own_steps, queued_in, steps_in, width, widths}
use Rattle.flt_life_model.specs.Room.{HasRoomForSteps, told_in}
use Rattle.flt_lane.specs.declared.living.LifeAnswers.{LifeAnswers}
use Rattle.flt_lane.specs.Views.{BlockRoom, KnownLocks, Seats}
use Rattle.flt_lane.specs.Block.{HaveRunParts}
use Rattle.flt_lane.specs.BlockRun.{GainsPart}
use Rattle.flt_lane.specs.Keeping.{IsAllowedPart, Keeping}
use Rattle.flt_lane.specs.Room.{AreRoomsOf, IsPartFor}
use Rattle.flt_lane.specs.Work.{AreReady}

-- The main seats have the calls of these parts left, and numbers for their lanes.
pub record HaveCallsFor (seats : Seats) (parts : List (PartOf Step)) : Type 0 where
  -- There are those on the status machine.
  pub dem : sum_by calls_in parts ≤ seats.dem.left
  -- There are those on the queue.
  pub queue : sum_by queued_in parts ≤ seats.queue.left
  -- The lock of the status machine has a number for each lane.
  pub dem_numbers : seats.dem.children + widths parts < 2 ^ 32
  -- So has that of the queue.
  pub queue_numbers : seats.queue.children + widths parts < 2 ^ 32

-- There is room for the answers to these parts.
pub record HasRoomForParts (answers : LifeAnswers) (parts : List (PartOf Step)) : Type 0 where
  -- Each step of lane 0 has an index.
  pub few : vec_len answers.own.answers + length parts < 2 ^ 32
  -- There is room for the answers of lane 0.
  pub own : HasRoomForSteps answers.own (own_steps parts)
  -- There is a place for the answers of each other lane.
  pub told : vec_len answers.told + widths parts ≤ vec_capacity answers.told

module _ {K : Type 0} (k : Keeping K) where
  -- These parts can be carried out: the main seats are ready for their steps, so is what is beside the locks, which allows them and has places
  -- for their arms, and there is room for their blocks and for their answers.
  pub record CanRunParts (locks : KnownLocks) (c : Config) (seats : Seats) (x : K) (rooms : List BlockRoom) (answers : LifeAnswers) (parts : List (PartOf Step)) : Type 0 where
    -- The main seats can make any step.
    pub ready : AreReady locks c seats.dem seats.queue
    -- They are the main seats, and no other seat is out.
    pub main : IsMain seats.dem × IsMain seats.queue
    -- What is beside the locks is ready, and has a place for each arm.
    pub able : k.is_ready c (sum_by arms_in parts) x
    -- Each part is possible under the configuration.
    pub steps : All (IsPartFor c) parts
    -- Each can be made with what is beside the locks.
    pub allowed : All (IsAllowedPart k) parts
    -- The main seats have the calls of the parts left.
    pub calls : HaveCallsFor seats parts
    -- Each block has its room.
    pub rooms_are : AreRoomsOf parts rooms
    -- There is room for the answers.
    pub room : HasRoomForParts answers parts

  -- A life can have these parts, whose steps are as few as those of a script, on main seats that no other seat was split from.
  pub record CanLive (locks : KnownLocks) (c : Config) (seats : Seats) (x : K) (parts : List Part) : Type 0 where
    -- The main seats can make any step.
    pub ready : AreReady locks c seats.dem seats.queue
    -- They are the main seats, and no other seat is out.
    pub main : IsMain seats.dem × IsMain seats.queue
    -- What is beside the locks is ready, and has a place for each arm.
    pub able : k.is_ready c (sum_by arms_in (parts_of parts)) x
    -- Each part is possible under the configuration.
    pub possible : All (IsPossiblePart c) (parts_of parts)
    -- They have no more steps than a script.
    pub few : sum_by steps_in (parts_of parts) ≤ 65536
    -- Each can be made with what is beside the locks.
    pub allowed : All (IsAllowedPart k) (parts_of parts)
    -- The main seats have their calls left.
    pub calls : HaveCallsFor seats (parts_of parts)

  -- A part was carried out, and its answers were put after those that were there.
  pub record RunsPart (c : Config) (seats after : Seats) (part : PartOf Step) (answers told : LifeAnswers) (x y : K) : Type 0 where
    -- Its calls, its answers and its deeds are those of the part.
    pub gains : GainsPart k c seats after part (told_in answers.own) (told_in told.own) (map told_in answers.told.items) (map told_in told.told.items) x y
    -- Each lane of a block has a list of answers more.
    pub told_len : vec_len told.told ≡ vec_len answers.told + width part

  -- Whatever parts come after this one: where all could be carried out, what it left can carry out those.
  abbrev pub CanRunBehind : KnownLocks → Config → (part : PartOf Step) → (seats after : Seats) → (x y : K) → (rooms later : List BlockRoom)
      → (answers told : LifeAnswers) → Type 0
  CanRunBehind locks c part seats after x y rooms later answers told = (rest : List (PartOf Step))
      → CanRunParts locks c seats x rooms answers (part ∷ rest) → CanRunParts locks c after y later told rest

  -- These parts were carried out, and these are the answers: so their calls, their deeds, and their arms.
  pub record HaveLivedParts (c : Config) (seats after : Seats) (x y : K) (answers : LifeAnswers) (parts : List (PartOf Step)) : Type 0 where
    -- The calls of the parts were made, and these are their answers.
    pub ran : HaveRunParts seats.dem after.dem seats.queue after.queue parts (told_in answers.own) (map told_in answers.told.items)
    -- Each lane of a block has a list of answers.
    pub told_len : vec_len answers.told ≡ widths parts
    -- Their deeds were done, and their arms were made.
    pub goes_on : k.goes_on c seats after (deeds_in parts (told_in answers.own) (map told_in answers.told.items)) (all_arms (own_actions parts)) (sum_by arms_in parts) x y
