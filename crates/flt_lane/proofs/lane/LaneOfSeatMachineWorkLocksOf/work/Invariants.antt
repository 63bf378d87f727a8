use Rattle.flt_lane.specs.Views.{known_by}
use Rattle.flt_lane.proofs.Running.{IsPartway}
use Rattle.flt_lane.proofs.lane.LaneOfSeatMachineWorkLocksOf.work.Given as goal

abbrev pub invariant-loop-index : goal.invariant-loop-index
invariant-loop-index g l = IsPartway (known_by g.L.StatusLock.known l.locks) l.initial.self l.self l.index
