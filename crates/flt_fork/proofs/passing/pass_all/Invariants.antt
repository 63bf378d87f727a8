use Rattle.flt_fork.proofs.Passed.{IsPassing}
use Rattle.flt_fork.proofs.passing.pass_all.Given as goal

abbrev pub invariant-loop-lane : goal.invariant-loop-lane
invariant-loop-lane g l = IsPassing (g.L.Passing.passes l.locks) (g.L.Passing.can_pass l.locks) l.initial.main l.main l.fn.lanes.items l.initial.out l.out l.yielded l.lane-iterator.rest.items
