use Rattle.std.proofs.Common.{refl}
use Rattle.flt_live.proofs.worked.words_ask.Goals as goal

pub returns : goal.returns
returns c = record { none = refl; word = refl; config = refl; image = refl; more = refl; other = refl; prefix = refl }
