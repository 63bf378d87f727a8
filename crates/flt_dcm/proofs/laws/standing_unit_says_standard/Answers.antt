use Rattle.flt_dcm.proofs.UnitLemmas.{says_standard}
use Rattle.flt_dcm.proofs.laws.standing_unit_says_standard.Goals as goal

pub returns : goal.returns
returns c = says_standard
