use Rattle.flt_store_model.proofs.ImageLaws as laws
use Rattle.flt_store_model.proofs.laws.marks_are_read.Goals as goal

pub returns : goal.returns
returns c = laws.marks_are_read
