use Rattle.flt_dem.proofs.IdleLemmas.{setting_on}
use Rattle.flt_dem.proofs.laws.setting_is_on_without_requests.Goals as goal

pub returns : goal.returns
returns c = setting_on
