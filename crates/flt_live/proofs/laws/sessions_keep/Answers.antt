use Rattle.flt_live.proofs.Sessions.{keep}
use Rattle.flt_live.proofs.laws.sessions_keep.Goals as goal

pub returns : goal.returns
returns c = keep
