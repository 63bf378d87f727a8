use Rattle.flt_sector_model.proofs.Logged.{whole, ends_within}
use Rattle.flt_sector_model.proofs.laws.log_is_whole.Goals as goal

pub returns-clause-whole : goal.returns-clause-whole
returns-clause-whole c = whole

pub returns-clause-within : goal.returns-clause-within
returns-clause-within c = ends_within
