use Rattle.flt_store_model.proofs.ImageLaws as laws
use Rattle.flt_store_model.proofs.laws.sound_is_one_or_next.Goals as goal

pub returns : goal.returns
returns c = laws.sound_is_one_or_next
