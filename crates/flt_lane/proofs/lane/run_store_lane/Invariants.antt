use Rattle.flt_lane.specs.Views.{known_locks}
use Rattle.flt_lane.proofs.Storing.{IsStoring}
use Rattle.flt_lane.proofs.lane.run_store_lane.Given as goal

abbrev pub invariant-loop-index : goal.invariant-loop-index
invariant-loop-index g l = IsStoring l.config (known_locks l.locks) l.initial.lane l.lane l.index l.initial.store l.store
