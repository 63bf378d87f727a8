use Rattle.flt_model.proofs.CodeLaws.{silent_where_asked}
use Rattle.flt_model.proofs.laws.silent_where_asked.Goals as goal

pub returns : goal.returns
returns c = silent_where_asked
