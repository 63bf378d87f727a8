-- What contracts see of the locks of a life, of the seats on them, and of the lanes that have these seats.
use Rattle.std.specs.Prelude.{◌≡◌}
use Rattle.atomic_table.specs.Seated.{TableId}
use Rattle.flt_config.specs.declared.config.Config.{Config}
use Rattle.flt_queue.specs.declared.lock.QueueLock.{QueueLock}
use Rattle.flt_turn.specs.Seats as turn
use Rattle.flt_shared.specs.Call.{Seat}
use Rattle.flt_shared.specs.declared.lock.DemLock.{DemLock}
use Rattle.flt_lane.specs.declared.lane.LaneOf.{LaneOf}
use Rattle.flt_lane.specs.declared.locks.LocksOf.{LocksOf}
use Rattle.flt_lane.specs.declared.locks.SeatsOf.{SeatsOf}
use Rattle.flt_lane.specs.declared.room.RoomOf.{RoomOf}

-- ---- seats

-- The seats of a lane: whatever status machine is under the lock, a seat of it is seen in one way.
abbrev pub Seats : Type 0
Seats = SeatsOf Seat

-- A lane with its seats.
abbrev pub LaneWork : Type 0
LaneWork = LaneOf Seat

-- A block with room for the seats of its lanes.
abbrev pub BlockRoom : Type 0
BlockRoom = RoomOf Seat

-- ---- locks

-- What is seen of a lock over a status machine.
pub record KnownLock : Type 0 where
  -- Which lock it is.
  pub turn : TableId
  -- The configuration of the machine under it.
  pub config : Config

-- What is seen of the lock over the status machine without subscribers.
abbrev pub known_dem : {F : _} {g : _} → DemLock F g → KnownLock
known_dem lock = record { turn = lock.turn; config = lock.config.value }

-- What is seen of the locks of a life.
pub record KnownLocks : Type 0 where
  -- The lock over the status machine.
  pub dem : KnownLock
  -- The lock over the queue.
  pub queue : QueueLock

-- The same of the locks, by what is seen of the one over the status machine.
abbrev pub known_by : {L : Type 0} → (L → KnownLock) → LocksOf L → KnownLocks
known_by known locks = record { dem = known locks.dem; queue = locks.queue }

-- What is seen of the locks of a life with a store.
abbrev pub known_locks : {F : _} {g : _} → LocksOf (DemLock F g) → KnownLocks
known_locks locks = known_by known_dem locks

-- The lock made the seat, which so begins with the configuration of the machine.
abbrev pub IsOfLock : KnownLock → Seat → Type 0
IsOfLock lock seat = turn.IsSeatOf lock.turn seat × (seat.start.config ≡ lock.config)
