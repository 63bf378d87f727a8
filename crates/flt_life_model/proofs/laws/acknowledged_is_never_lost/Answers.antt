use Rattle.flt_store_model.proofs.ImageLaws.{held_stands, spare_stands}
use Rattle.flt_life_model.proofs.Older.{never_lost}
use Rattle.flt_life_model.proofs.laws.acknowledged_is_never_lost.Goals as goal

pub returns : goal.returns
returns c = never_lost held_stands spare_stands
