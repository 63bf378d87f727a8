use Rattle.flt_dcm.proofs.UnitLemmas.{stands_snapshot}
use Rattle.flt_dcm.proofs.state.UnitState.persist.Goals as goal

pub returns-clause-stands : goal.returns-clause-stands
returns-clause-stands g life past s = stands_snapshot life past g.args.self.now s
