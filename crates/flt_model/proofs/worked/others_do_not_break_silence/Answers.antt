use Rattle.std.proofs.Common.{refl}
use Rattle.flt_model.proofs.worked.others_do_not_break_silence.Goals as goal

pub returns : goal.returns
returns c = refl
