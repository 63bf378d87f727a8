use Rattle.std.proofs.Common.{◌≡◌, All}
use Rattle.flt_turn.specs.Seats.{IsSeatOf}
use Rattle.bench.proofs.lanes.seats.Given as goal

abbrev pub invariant-loop-lane : goal.invariant-loop-lane
invariant-loop-lane l = IsSeatOf l.turn l.main × (l.main.number ≡ 0) × (l.main.children ≡ l.lane) × All (λ seat. IsSeatOf l.turn seat) l.seats.items
