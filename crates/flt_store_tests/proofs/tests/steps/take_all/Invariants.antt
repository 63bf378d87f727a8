use Rattle.flt_store.specs.Store.{IsAlive}
use Rattle.flt_store_tests.specs.Room.{IsRoomy, SameRoom}
use Rattle.flt_store_tests.proofs.tests.steps.take_all.Given as goal

abbrev pub invariant-loop-at : goal.invariant-loop-at
invariant-loop-at g l = IsAlive l.config l.store × IsRoomy l.config l.store × SameRoom l.initial.store l.store
