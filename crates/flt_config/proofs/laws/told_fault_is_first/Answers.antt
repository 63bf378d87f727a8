use Rattle.flt_config.proofs.CheckLaws as laws
use Rattle.flt_config.proofs.laws.told_fault_is_first.Goals as goal

pub returns : goal.returns
returns c = laws.told_fault_is_first
