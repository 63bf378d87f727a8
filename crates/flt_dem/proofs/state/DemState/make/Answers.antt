use Rattle.flt_dem.proofs.ManagerLemmas.{none_started}
use Rattle.flt_dem.proofs.state.DemState.make.Goals as goal

pub returns-clause-stands : goal.returns-clause-stands
returns-clause-stands c = record {
  events = c.new.ensures.stands;
  started = none_started;
  signals = c.zero.ensures;
  conditions = c.fulfilled.ensures;
}
