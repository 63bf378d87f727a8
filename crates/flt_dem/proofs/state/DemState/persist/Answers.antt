use Rattle.flt_model.specs.declared.call.Op.TheVariants as ops
use Rattle.flt_dem.proofs.IdleLemmas.{stands_idle}
use Rattle.flt_dem.proofs.state.DemState.persist.Goals as goal

pub returns-clause-stands : goal.returns-clause-stands
returns-clause-stands c = λ life past s. stands_idle life past c.args.self.now ops.Snapshot tt s
