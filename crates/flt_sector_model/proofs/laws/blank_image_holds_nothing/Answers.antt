use Rattle.flt_sector_model.proofs.Blank.{blank_holds_nothing}
use Rattle.flt_sector_model.proofs.laws.blank_image_holds_nothing.Goals as goal

pub returns : goal.returns
returns c = blank_holds_nothing
