use Rattle.flt_shared.proofs.Shows.{told_standard}
use Rattle.flt_shared.proofs.lock.DemLock.show.Goals as goal

pub returns-clause-standard : goal.returns-clause-standard
returns-clause-standard g c = told_standard _ _ _ c.call.result c.call.ensures.call
