use Rattle.flt_nvm.proofs.job.+try_write.Given as goal

abbrev pub decreases-try_write : goal.decreases-try_write
decreases-try_write g l = l.most
