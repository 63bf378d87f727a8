use Rattle.flt_sector_model.proofs.First.{greater_is_current, none_is_current}
use Rattle.flt_sector_model.proofs.laws.greater_sector_is_current.Goals as goal

pub returns-clause-current : goal.returns-clause-current
returns-clause-current c = greater_is_current

pub returns-clause-none : goal.returns-clause-none
returns-clause-none c = none_is_current
