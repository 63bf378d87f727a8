use Rattle.flt_store_model.proofs.ImageLaws as laws
use Rattle.flt_store_model.proofs.laws.parts_are_taken.Goals as goal

pub returns : goal.returns
returns c = laws.parts_are_taken
