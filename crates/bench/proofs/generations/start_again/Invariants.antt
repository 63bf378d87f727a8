use Rattle.flt_store.specs.Cause.{HasRoom}
use Rattle.flt_store.specs.Store.{driver_of}
use Rattle.bench.proofs.generations.start_again.Given as goal

abbrev pub invariant-loop-turn : goal.invariant-loop-turn
invariant-loop-turn g l = HasRoom l.config (driver_of l.store).room
