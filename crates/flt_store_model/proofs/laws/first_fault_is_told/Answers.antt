use Rattle.flt_store_model.specs.Layout.{first_commit, second_commit}
use Rattle.flt_store_model.specs.Holding.{either_copy, only_bytes}
use Rattle.flt_store_model.proofs.ImageLaws as laws
use Rattle.flt_store_model.proofs.laws.first_fault_is_told.Goals as goal

pub returns-clause-by_first : goal.returns-clause-by_first
returns-clause-by_first c = laws.first_fault_is_told (λ value. either_copy (value first_commit) (value second_commit))

pub returns-clause-by_second : goal.returns-clause-by_second
returns-clause-by_second c = laws.first_fault_is_told (λ value. only_bytes (value second_commit))

pub returns-clause-fine_by_first : goal.returns-clause-fine_by_first
returns-clause-fine_by_first c = laws.holds_where_no_fault (λ value. either_copy (value first_commit) (value second_commit))

pub returns-clause-fine_by_second : goal.returns-clause-fine_by_second
returns-clause-fine_by_second c = laws.holds_where_no_fault (λ value. only_bytes (value second_commit))
