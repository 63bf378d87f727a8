use Rattle.flt_nvm.proofs.job.+try_read.Given as goal

abbrev pub decreases-try_read : goal.decreases-try_read
decreases-try_read g l = l.most
