use Rattle.flt_nvm.specs.Tries.{Mounts, Changing, Looks}
use Rattle.flt_nvm.specs.declared.got.Got.{Got}
use Rattle.flt_nvm.proofs.Counting.{tries_counted}
use Rattle.flt_nvm.proofs.laws.jobs_take_three_calls.Goals as goal

pub returns-clause-mounts : goal.returns-clause-mounts
returns-clause-mounts c = tries_counted Mounts (λ before after result one. one.once.calls) 3

pub returns-clause-changes : goal.returns-clause-changes
returns-clause-changes c = λ block asked size. tries_counted (Changing block asked size) (λ before after result one. one.once.calls) 3

pub returns-clause-looks : goal.returns-clause-looks
returns-clause-looks c = λ block. tries_counted (Looks {T = Got} block) (λ before after result one. one.once.calls) 3
