use Rattle.flt_model.proofs.ClearLaws.{clear_of_all_leaves_first_state}
use Rattle.flt_model.proofs.laws.clear_of_all_leaves_first_state.Goals as goal

pub returns : goal.returns
returns c = clear_of_all_leaves_first_state
