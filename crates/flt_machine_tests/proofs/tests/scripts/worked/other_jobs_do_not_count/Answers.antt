use Rattle.std.proofs.Common.{⊎_elim}
use Rattle.flt_queue.specs.Queue.{waiting, pending, taken}
use Rattle.flt_machine_tests.proofs.tests.scripts.worked.other_jobs_do_not_count.Goals as goal

pub returns : goal.returns
unfolding waiting pending taken
returns c = λ before held job may. ⊎_elim (λ other. (let wrong = other.0 in absurd (cc (wrong)))) (λ same. same) may
