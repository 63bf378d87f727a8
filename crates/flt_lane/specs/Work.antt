-- A lane before its steps and after them.
use Rattle.std.specs.Prelude.{◌≡◌, ◌≤◌, ◌++◌, List, All, length}
use Rattle.flt_config.specs.declared.config.Config.{Config}
use Rattle.flt_config.specs.Durable.{Fits}
use Rattle.flt_config.specs.Validity.{IsValid}
use Rattle.flt_life_model.specs.Answers.{Told}
use Rattle.flt_life_model.specs.Parts.{IsPossibleInLane, calls_of, queued_of}
use Rattle.flt_life_model.specs.Room.{HasRoomForSteps, told_in}
use Rattle.flt_turn.specs.Seats as turn
use Rattle.flt_shared.specs.Call.{Seat}
use Rattle.flt_queue.specs.declared.lock.QueueLock.{QueueLock}
use Rattle.flt_lane.specs.Views.{IsOfLock, KnownLock, KnownLocks, LaneWork, Seats}
use Rattle.flt_lane.specs.Runs.{QueueSeat, RunsQueue, RunsSteps}

-- Both seats are of these locks, and the queue has as many blocks as the status machine's configuration.
pub record AreOfLocks (locks : KnownLocks) (seats : Seats) : Type 0 where
  -- The one is of the status machine's lock.
  pub dem : IsOfLock locks.dem seats.dem
  -- The other is of the queue's lock.
  pub queue : turn.IsSeatOf locks.queue.turn seats.queue
  -- The queue has as many blocks as the configuration.
  pub blocks : seats.queue.start ≡ seats.dem.start.config.blocks

-- The seats of a lane are of these locks.
abbrev pub AreSeatsOf : KnownLocks → LaneWork → Type 0
AreSeatsOf locks work = AreOfLocks locks work.seats

-- The status machine under a seat started from a state that fits this configuration, which is its own and is valid.
pub record HasConfig (config : Config) (seat : Seat) : Type 0 where
  -- It is that of the machine's start.
  pub same : seat.start.config ≡ config
  -- It is valid.
  pub valid : IsValid config
  -- The state fits it.
  pub fits : Fits config seat.start.base

-- What is needed for a save: the seat is of the lock of the status machine, which has this configuration.
pub record CanSave (dem : KnownLock) (config : Config) (seat : Seat) : Type 0 where
  -- The seat is of the lock.
  pub lock : IsOfLock dem seat
  -- The machine has this configuration.
  pub has : HasConfig config seat

-- What is needed for a drain: the seat is of the lock of the queue, which has the blocks of this configuration, and that is valid.
pub record CanDrain (queue : QueueLock) (config : Config) (jobs : QueueSeat) : Type 0 where
  -- The seat is of the lock.
  pub lock : turn.IsSeatOf queue.turn jobs
  -- The queue has the blocks of this configuration.
  pub blocks : jobs.start ≡ config.blocks
  -- It is valid.
  pub valid : IsValid config

-- What is needed to make any step.
pub record AreReady (locks : KnownLocks) (config : Config) (seat : Seat) (jobs : QueueSeat) : Type 0 where
  -- The seat of the status machine can save.
  pub dem : CanSave locks.dem config seat
  -- The seat of the queue can drain.
  pub queue : CanDrain locks.queue config jobs

-- It has its seat's number, and its seats have the calls of its steps, which a lane can make; and there is room for their answers.
pub record IsPrepared (locks : KnownLocks) (work : LaneWork) : Type 0 where
  -- Its seats are of these locks.
  pub seats : AreSeatsOf locks work
  -- Its number is that of its seat.
  pub number : work.number ≡ work.seats.dem.number
  -- A lane can make each of its steps.
  pub steps : All (IsPossibleInLane work.seats.dem.start.config) work.steps.now
  -- It has at most 65,536 of them.
  pub few : length work.steps.now ≤ 65536
  -- Its seat has their calls on the status machine left.
  pub calls : calls_of work.steps.now ≤ work.seats.dem.left
  -- Its other seat has their calls on the queue left.
  pub queued : queued_of work.steps.now ≤ work.seats.queue.left
  -- There is room for their answers.
  pub room : HasRoomForSteps work.replies work.steps.now

-- It made its steps, and has one answer more for each.
pub record HasRun (before after : LaneWork) : Type 0 where
  -- The answers.
  pub told : List Told
  -- By them the steps made their calls on the status machine.
  pub dem : RunsSteps before.seats.dem before.steps.now told after.seats.dem
  -- By them the steps made their calls on the queue.
  pub queue : RunsQueue before.seats.queue before.steps.now told after.seats.queue
  -- They come after those that it had.
  pub answers : told_in after.replies ≡ told_in before.replies ++ told
  -- Its number is the same.
  pub number : (after.number ≡ before.number) × (after.number ≡ after.seats.dem.number)
  -- So are its steps.
  pub steps : after.steps.now ≡ before.steps.now
