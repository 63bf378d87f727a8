-- The lanes of a block at the main seats: there each gets its own, and there each gives them back.
use Rattle.std.specs.Prelude.{◌≡◌, ◌+◌, List, [], ◌++◌, All, length, map}
use Rattle.flt_turn.specs.Seats.{joined_seat}
use Rattle.flt_fork.specs.Passed.{AreSplit, CanSplit, IsMainOf, Splits}
use Rattle.flt_fork.specs.Seats.{AreJoined, IsSplitOff}
use Rattle.flt_step.specs.declared.step.Step.{Step}
use Rattle.flt_life_model.specs.Answers.{Told}
use Rattle.flt_life_model.specs.declared.replies.LaneReplies.{LaneReplies}
use Rattle.flt_life_model.specs.declared.room.LaneRoom.{LaneRoom}
use Rattle.flt_life_model.specs.Parts.{calls_of, queued_of}
use Rattle.flt_life_model.specs.Room.{IsLaneRoom, steps_of, told_in}
use Rattle.flt_lane.specs.Views.{KnownLocks, LaneWork, Seats}
use Rattle.flt_lane.specs.Room.{IsLaneFor, all_calls, all_queued}
use Rattle.flt_lane.specs.Work.{AreSeatsOf, IsPrepared}

module _ (locks : KnownLocks) where
  -- The main seats have the calls of the steps of these lanes, which are ready for them, and numbers.
  pub record CanSeat (main : Seats) (rooms : List LaneRoom) : Type 0 where
    -- The main seat of the status machine has the calls and numbers for these lanes.
    pub dem : CanSplit locks.dem.turn main.dem (length rooms) (all_calls (steps_of rooms))
    -- So has that of the queue.
    pub queue : CanSplit locks.queue.turn main.queue (length rooms) (all_queued (steps_of rooms))
    -- The status machine has the configuration of the lock.
    pub config : main.dem.start.config ≡ locks.dem.config
    -- The queue has as many blocks as the configuration.
    pub blocks : main.queue.start ≡ main.dem.start.config.blocks
    -- There is room for the answers of each lane.
    pub ready : All IsLaneRoom rooms
    -- Each lane can make its steps.
    pub steps : All (IsLaneFor main.dem.start.config) (steps_of rooms)

  -- A lane got its seats, with exactly the calls of its steps.
  pub record IsSeated (before : Seats) (room : LaneRoom) (after : Seats) (work : LaneWork) : Type 0 where
    -- The lane is prepared.
    pub ready : IsPrepared locks work
    -- It has its steps.
    pub steps_are : work.steps.now ≡ room.steps.now
    -- It has no answer yet.
    pub no_answers : told_in work.replies ≡ []
    -- It has exactly the calls of its steps on the status machine.
    pub dem : Splits before.dem (calls_of work.steps.now) after.dem work.seats.dem
    -- It has exactly those on the queue.
    pub queue : Splits before.queue (queued_of work.steps.now) after.queue work.seats.queue

  -- All lanes of a block got theirs.
  pub record AreSeated (main off : Seats) (lanes : List (List Step)) (works : List LaneWork) : Type 0 where
    -- Each lane is prepared.
    pub ready : All (IsPrepared locks) works
    -- They have their steps, in order.
    pub steps_are : map (λ (w : LaneWork). w.steps.now) works ≡ lanes
    -- None has an answer yet.
    pub no_answers : All (λ (w : LaneWork). told_in w.replies ≡ []) works
    -- Each has exactly the calls of its steps on the status machine.
    pub dem : AreSplit (λ (w : LaneWork). w.seats.dem) (λ w. calls_of w.steps.now) main.dem (main.dem.children + 1) works
    -- Each has exactly those on the queue.
    pub queue : AreSplit (λ (w : LaneWork). w.seats.queue) (λ w. queued_of w.steps.now) main.queue (main.queue.children + 1) works
    -- The main seat of the status machine has the other calls.
    pub dem_off : IsSplitOff main.dem off.dem (length works) (all_calls lanes)
    -- So has that of the queue.
    pub queue_off : IsSplitOff main.queue off.queue (length works) (all_queued lanes)

  -- These are the main seats, and the lanes have theirs.
  pub record CanJoin (main : Seats) (works : List LaneWork) : Type 0 where
    -- This is the main seat of the status machine.
    pub dem : IsMainOf locks.dem.turn main.dem
    -- This is the main seat of the queue.
    pub queue : IsMainOf locks.queue.turn main.queue
    -- The status machine has the configuration of the lock.
    pub config : main.dem.start.config ≡ locks.dem.config
    -- The seats of each lane are of these locks.
    pub seats : All (AreSeatsOf locks) works

-- A lane gave its seats back, and left its answers.
pub record IsJoined (before : Seats) (work : LaneWork) (after : Seats) (replies : LaneReplies) : Type 0 where
  -- Its answers are those that it has.
  pub replies_are : replies ≡ work.replies
  -- The main seat of the status machine has its calls, and knows what it knew.
  pub dem : after.dem ≡ joined_seat before.dem work.seats.dem
  -- So it is with that of the queue.
  pub queue : after.queue ≡ joined_seat before.queue work.seats.queue

-- All lanes of a block gave theirs back, and their answers came after those that were there.
pub record HaveJoined (off after : Seats) (works : List LaneWork) (told told_after : List (List Told)) : Type 0 where
  -- The answers of each lane come after those that were there.
  pub told_are : told_after ≡ told ++ map (λ (w : LaneWork). told_in w.replies) works
  -- The main seat of the status machine has their calls, and knows what they knew.
  pub dem : AreJoined off.dem after.dem (map (λ (w : LaneWork). w.seats.dem) works)
  -- So it is with that of the queue.
  pub queue : AreJoined off.queue after.queue (map (λ (w : LaneWork). w.seats.queue) works)
