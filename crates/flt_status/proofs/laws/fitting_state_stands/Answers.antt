use Rattle.flt_status.proofs.Fitting.{fitting_state_stands}
use Rattle.flt_status.proofs.laws.fitting_state_stands.Goals as goal

pub returns : goal.returns
returns c = fitting_state_stands
