use Rattle.flt_store_model.proofs.WholeLaws as laws
use Rattle.flt_store_model.proofs.image_laws.sound_image_holds_both.Goals as goal

pub returns : goal.returns
returns c = laws.sound_image_holds_both
