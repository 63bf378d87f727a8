use Rattle.flt_store.specs.Store.{IsAlive}
use Rattle.flt_store_tests.specs.Room.{IsRoomy, SameRoom}
use Rattle.flt_store_tests.proofs.tests.cuts.run_job.Given as goal

abbrev pub invariant-loop-call : goal.invariant-loop-call
invariant-loop-call g l = IsAlive l.config l.store × IsRoomy l.config l.store × SameRoom l.initial.store l.store
