use Rattle.flt_config.proofs.CheckLaws as laws
use Rattle.flt_config.proofs.laws.accepted_where_valid.Goals as goal

pub returns : goal.returns
returns c = laws.accepted_where_valid
