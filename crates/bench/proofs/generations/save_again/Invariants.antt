use Rattle.flt_store.specs.Store.{IsAlive}
use Rattle.bench.proofs.generations.save_again.Given as goal

abbrev pub invariant-loop-turn : goal.invariant-loop-turn
invariant-loop-turn g l = IsAlive l.config l.store
