-- What a part of a life leaves of the main seats.
use Rattle.std.specs.Prelude.{◌≡◌, ◌+◌, List, [], ◌∷◌, ◌++◌}
use Rattle.flt_step.specs.declared.step.Step.{Step}
use Rattle.flt_step.specs.Part.{PartOf}
use Rattle.flt_turn.specs.Seats.{Seated}
use Rattle.flt_queue.specs.Call as queued
use Rattle.flt_shared.specs.Call.{Seat, reply_after}
use Rattle.flt_life_model.specs.Answers.{Told}
use Rattle.flt_life_model.specs.Making.{PartMakes, PartsMake}
use Rattle.flt_fork.specs.Mixing.{Call, Block}
use Rattle.flt_life_model.specs.Parts.{width, widths}
use Rattle.flt_life_model.specs.Played.{StepMakes, StepQueues}
use Rattle.flt_fork.specs.Lived.{HasLived}
use Rattle.flt_fork.specs.Runs.{HasRunBlock}
use Rattle.flt_lane.specs.Runs.{QueueSeat}

-- ---- on one lock

module _ {S O R : Type 0} (answer : S → List O → O → R) (MadeBy : Step → Told → List (Call O R) → Type 0) where
  -- A part was carried out, and was answered so.
  pub record HasRunPart (main after : Seated S O) (part : PartOf Step) (own : List Told) (lanes : List (List Told)) : Type 0 where
    -- Its calls, by lane.
    pub made : Block O R
    -- They are the calls of its steps, with these answers.
    pub makes : PartMakes MadeBy (main.children + 1) part own lanes made
    -- Each was made at its own place and answered there.
    pub lived : HasLived answer main after (width part) (made ∷ [])

  -- All parts were carried out, and were answered so.
  pub record HasRunParts (main after : Seated S O) (parts : List (PartOf Step)) (own : List Told) (lanes : List (List Told)) : Type 0 where
    -- Their calls, by part and lane.
    pub blocks : List (Block O R)
    -- They are the calls of their steps, with these answers.
    pub made : PartsMake MadeBy (main.children + 1) parts own lanes blocks
    -- Each was made at its own place and answered there.
    pub lived : HasLived answer main after (widths parts) blocks

-- ---- on both locks

-- The lanes of a block were run, and their answers were put after those of the lanes before.
pub record RunsLanes (main after : Seat) (jobs jobs_after : QueueSeat) (lanes : List (List Step)) (told told_after : List (List Told)) : Type 0 where
  -- The answers of these lanes.
  pub others : List (List Told)
  -- They come after those of the lanes before.
  pub told_are : told_after ≡ told ++ others
  -- By them each lane made its calls on the status machine.
  pub dem : HasRunBlock reply_after StepMakes main after lanes others
  -- By them each lane made its calls on the queue.
  pub queue : HasRunBlock queued.reply_after StepQueues jobs jobs_after lanes others

-- A part was carried out, and its answers were put after those of lane 0 and of the lanes before.
pub record Gains (main after : Seat) (jobs jobs_after : QueueSeat) (part : PartOf Step) (mine : List Told) (others : List (List Told))
    (own own_after : List Told) (lanes lanes_after : List (List Told)) : Type 0 where
  -- The answers of lane 0 come after those that it had.
  pub own_are : own_after ≡ own ++ mine
  -- Those of the other lanes come after those of the lanes before.
  pub lanes_are : lanes_after ≡ lanes ++ others
  -- By them the part made its calls on the status machine.
  pub dem : HasRunPart reply_after StepMakes main after part mine others
  -- By them the part made its calls on the queue.
  pub queue : HasRunPart queued.reply_after StepQueues jobs jobs_after part mine others

-- All parts were carried out, and were answered so.
pub record HaveRunParts (main after : Seat) (jobs jobs_after : QueueSeat) (parts : List (PartOf Step)) (own : List Told)
    (lanes : List (List Told)) : Type 0 where
  -- So the parts made their calls on the status machine.
  pub dem : HasRunParts reply_after StepMakes main after parts own lanes
  -- So they made those on the queue.
  pub queue : HasRunParts queued.reply_after StepQueues jobs jobs_after parts own lanes
