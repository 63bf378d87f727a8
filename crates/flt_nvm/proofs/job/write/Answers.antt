use Rattle.flt_nvm.proofs.Jobs.{gives_number}
use Rattle.flt_nvm.proofs.job.write.Goals as goal

pub returns : goal.returns
returns g c = gives_number _ _ _ _ _ _ c.try_write.ensures
