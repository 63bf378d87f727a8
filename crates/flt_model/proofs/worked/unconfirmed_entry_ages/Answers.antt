use Rattle.std.proofs.Common.{refl}
use Rattle.flt_model.proofs.worked.unconfirmed_entry_ages.Goals as goal

pub returns : goal.returns
returns c = refl
