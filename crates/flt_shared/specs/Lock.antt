-- Which seats belong to a lock.
use Rattle.std.specs.Prelude.{◌≡◌}
use Rattle.flt_turn.specs.Seats as turn
use Rattle.flt_shared.specs.Call.{Seat}
use Rattle.flt_shared.specs.declared.lock.DemLock.{DemLock}

-- The lock made the seat, which so begins with the lock's configuration.
abbrev pub IsSeatOf : {F : _} {g : _} → DemLock F g → Seat → Type 0
IsSeatOf lock seat = turn.IsSeatOf lock.turn seat × (seat.start.config ≡ lock.config.value)
