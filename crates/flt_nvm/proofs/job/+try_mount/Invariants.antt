use Rattle.flt_nvm.proofs.job.+try_mount.Given as goal

abbrev pub decreases-try_mount : goal.decreases-try_mount
decreases-try_mount g l = l.most
