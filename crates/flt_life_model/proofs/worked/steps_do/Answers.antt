use Rattle.std.proofs.Common.{refl}
use Rattle.flt_life_model.proofs.worked.steps_do.Goals as goal

pub returns : goal.returns
returns c = record { urged = λ job. refl; posted = λ job. refl; read = refl; saved = refl }
