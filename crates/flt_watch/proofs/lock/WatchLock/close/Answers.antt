use Rattle.std.specs.Prelude.{reverse}
use Rattle.std.proofs.Props.{props}
use Rattle.std.proofs.Math.Logic.{∥∥₁_elim}
use Rattle.flt_turn.specs.Journal.{ops_of}
use Rattle.flt_watch.proofs.lock.WatchLock.close.Goals as goal

pub returns-clause-values : goal.returns-clause-values
returns-clause-values g c =
    ∥∥₁_elim c.close-journal.ensures.stands (Prim.hlevel props) (λ stood. c.into_parts-unit.ensures.told c.args.main.start (reverse (ops_of c.close-journal.result.journal.items)) stood)
