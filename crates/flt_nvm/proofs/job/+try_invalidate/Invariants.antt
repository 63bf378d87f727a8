use Rattle.flt_nvm.proofs.job.+try_invalidate.Given as goal

abbrev pub decreases-try_invalidate : goal.decreases-try_invalidate
decreases-try_invalidate g l = l.most
