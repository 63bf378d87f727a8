use Rattle.std.proofs.Common.{refl}
use Rattle.flt_model.proofs.worked.refused_request_is_heard.Goals as goal

pub returns : goal.returns
returns c = refl
