use Rattle.flt_store_model.proofs.ImageLaws.{held_stands, spare_stands}
use Rattle.flt_life_model.proofs.Soundness.{stays_sound}
use Rattle.flt_life_model.proofs.laws.sound_runs_stay_sound.Goals as goal

pub returns : goal.returns
returns c = stays_sound held_stands spare_stands
