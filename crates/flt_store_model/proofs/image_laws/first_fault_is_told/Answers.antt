use Rattle.flt_store_model.specs.Layout.{first_commit, second_commit}
use Rattle.flt_store_model.specs.Holding.{either_copy, only_bytes}
use Rattle.flt_store_model.proofs.WholeLaws.{tells_first}
use Rattle.flt_store_model.proofs.image_laws.first_fault_is_told.Goals as goal

pub returns-clause-held : goal.returns-clause-held
returns-clause-held c = tells_first (λ value. either_copy (value first_commit) (value second_commit))

pub returns-clause-spare : goal.returns-clause-spare
returns-clause-spare c = tells_first (λ value. only_bytes (value second_commit))
