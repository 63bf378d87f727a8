use Rattle.std.proofs.Common.{◌≡◌, take}
use Rattle.flt_notify.specs.Changes.{statuses}
use Rattle.flt_notify.proofs.watched.statuses_of.Given as goal

abbrev pub invariant-loop-state : goal.invariant-loop-state
invariant-loop-state l = l.bytes.items ≡ statuses (take l.state-index l.states)
