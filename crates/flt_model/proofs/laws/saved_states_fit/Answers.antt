use Rattle.flt_model.proofs.SavedFits.{saved_states_fit}
use Rattle.flt_model.proofs.laws.saved_states_fit.Goals as goal

pub returns : goal.returns
returns c = saved_states_fit
