use Rattle.flt_sector_model.proofs.First.{first_fault_is_told, no_fault_is_told}
use Rattle.flt_sector_model.proofs.laws.first_fault_is_told.Goals as goal

pub returns-clause-told : goal.returns-clause-told
returns-clause-told c = first_fault_is_told

pub returns-clause-none : goal.returns-clause-none
returns-clause-none c = no_fault_is_told
