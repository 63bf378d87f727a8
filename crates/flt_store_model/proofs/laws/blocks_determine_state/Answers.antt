use Rattle.flt_store_model.proofs.ImageLaws as laws
use Rattle.flt_store_model.proofs.laws.blocks_determine_state.Goals as goal

pub returns : goal.returns
returns c = laws.blocks_determine_state
