use Rattle.flt_life_model.proofs.worked.failures_have_faults.Goals as goal

pub returns : goal.returns
returns c = λ config boot next caused. (caused.flash, caused.jobs)
