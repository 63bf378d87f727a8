use Rattle.flt_config.proofs.FieldLaws as laws
use Rattle.flt_config.proofs.laws.first_number_is_told.Goals as goal

pub returns : goal.returns
returns c = laws.first_number_is_told
