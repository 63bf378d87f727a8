use Rattle.flt_store_model.proofs.ImageLaws as laws
use Rattle.flt_store_model.proofs.laws.blank_image_is_sound.Goals as goal

pub returns : goal.returns
returns c = laws.blank_is_sound
