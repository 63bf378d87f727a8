-- What a step leaves of its lane: its answer is kept, its calls are made on the two seats, and the store goes on.
use Rattle.std.specs.Prelude.{◌≡◌, ◌+◌, ◌≤◌, List, [], ◌∷◌, ◌++◌, vec_len}
use Rattle.std.specs.Vec.{vec_capacity}
use Rattle.flt_flash.specs.declared.blocks.Blocks.{Ghosts}
use Rattle.flt_config.specs.declared.config.Config.{Config}
use Rattle.flt_step.specs.declared.step.Step.{Step}
use Rattle.flt_store.specs.declared.store.Store.{Store}
use Rattle.flt_store.specs.Store.{driver_of}
use Rattle.flt_life_model.specs.declared.action.Action.{Action}
use Rattle.flt_life_model.specs.declared.action.Action.TheVariants.{Call, Queue}
use Rattle.flt_life_model.specs.declared.replies.LaneReplies.{LaneReplies}
use Rattle.flt_life_model.specs.Actions.{action_of, arm_count, arms_of, call_count, queue_count, response_size}
use Rattle.flt_life_model.specs.Answers.{Told, byte_room}
use Rattle.flt_life_model.specs.Going.{GoesOn, WereGiven}
use Rattle.flt_life_model.specs.Ordered.{Deed, with_deed}
use Rattle.flt_life_model.specs.Room.{HasRoomForSteps, told_in}
use Rattle.flt_shared.specs.Call.{Seat}
use Rattle.flt_lane.specs.Views.{Seats}
use Rattle.flt_lane.specs.Living.{Carries}
use Rattle.flt_lane.specs.Runs.{Makes, Queues, QueueSeat}

-- It is a call of what is under a lock: it needs nothing of the store or of the bench.
abbrev pub IsLockCall : Action → Type 0
IsLockCall (Call op) = Unit {0}
IsLockCall (Queue op) = Unit {0}
IsLockCall _ = ⊥

-- The seats have the calls left that an action makes.
pub record HaveCallsOf (seats : Seats) (action : Action) : Type 0 where
  -- There are those on the status machine.
  pub dem : call_count action ≤ seats.dem.left
  -- There are those on the queue.
  pub queue : queue_count action ≤ seats.queue.left

-- There is room for the answer to what a step does.
pub record HasRoomForAnswer (replies : LaneReplies) (action : Action) : Type 0 where
  -- There is a place for the answer.
  pub answers : vec_len replies.answers + 1 ≤ vec_capacity replies.answers
  -- There is room for its bytes.
  pub responses : vec_len replies.responses + response_size action ≤ byte_room replies.responses

-- The answer was put after those before it, and there is room for those to the later steps.
pub record KeepsAnswer (before after : LaneReplies) (step : Step) (answer : Told) : Type 0 where
  -- It is the last of the answers.
  pub told : told_in after ≡ told_in before ++ answer ∷ []
  -- There is one more.
  pub len : vec_len after.answers ≡ vec_len before.answers + 1
  -- The room for the later ones is still there.
  pub room : (later : List Step) → HasRoomForSteps before (step ∷ later) → HasRoomForSteps after later

-- The step made its calls on both seats, and its answer by them was kept.
pub record MakesStep (seat after : Seat) (jobs jobs_after : QueueSeat) (step : Step) (replies kept : LaneReplies) : Type 0 where
  -- The answer.
  pub answer : Told
  -- It is kept.
  pub keeps : KeepsAnswer replies kept step answer
  -- By it the step made its calls on the status machine.
  pub dem : Makes seat step answer after
  -- By it the step made its calls on the queue.
  pub queue : Queues jobs step answer jobs_after

module _ {B : Type 0} {b : Ghosts B} where
  -- And its deed was done over the store, where it is one.
  pub record TakesStep (c : Config) (seat after : Seat) (jobs jobs_after : QueueSeat) (step : Step) (replies kept : LaneReplies)
      (store now : Store B b) : Type 0 where
    -- The step made its calls, and its answer is kept.
    pub made : MakesStep seat after jobs jobs_after step replies kept
    -- The store was carried on by what the step did to it.
    pub carries : (earlier : List Deed) → Carries c seat after jobs jobs_after earlier (with_deed step made.answer earlier) store now
    -- The driver was called within one life.
    pub keeps_driver : GoesOn (driver_of store) (driver_of now)
    -- The bench has the arm of the step, if it makes one, after those that it had.
    pub arms_made : WereGiven (arms_of (action_of step)) (driver_of store).device.bench.arms (driver_of now).device.bench.arms
    -- No arm was made beside it.
    pub armed : (driver_of now).device.bench.armed ≤ (driver_of store).device.bench.armed + arm_count (action_of step)
