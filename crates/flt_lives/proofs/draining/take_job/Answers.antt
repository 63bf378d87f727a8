use Rattle.std.proofs.Common.{◌∙◌, ◌∷◌, ap, subst, sym}
use Rattle.flt_queue.specs.declared.job.QueueOp.TheVariants as ops
use Rattle.flt_queue.specs.Queue.{IsFor, IsJob}
use Rattle.flt_queue.specs.Reply.{job_reply_with}
use Rattle.flt_queue.specs.Stands.{QueueStands}
use Rattle.flt_queue.proofs.Handing.{none_handed}
use Rattle.flt_flash.proofs.CallsInARow.{no_call}
use Rattle.flt_store.specs.Store.{driver_of}
use Rattle.flt_lives.proofs.Jobs.{carries_job, carries_take, job_out, none_out}
use Rattle.flt_lives.proofs.draining.take_job.Goals as goal

pub write_job-requires-clause-job : goal.write_job-requires-clause-job
write_job-requires-clause-job g c =
    let job = c.apply_into.new.job in
    subst (λ blocks. IsJob blocks job) c.requires.blocks (subst (λ kind. IsFor c.args.queue.now.blocks (job_reply_with kind job)) c.in-Job.is c.apply_into.ensures.job)

pub returns-in-Job-clause-taken : goal.returns-in-Job-clause-taken
returns-in-Job-clause-taken g c = λ jobs stands.
    let job = c.apply_into.new.job in
    let before = subst (λ blocks. QueueStands blocks jobs c.args.queue.now) (sym c.requires.blocks) stands in
    let took = subst (λ blocks. QueueStands blocks (ops.Take ∷ jobs) c.apply_into.new.self) c.requires.blocks (c.apply_into.ensures.stands jobs before) in
    let next = job_out _ job (ap (λ kind. job_reply_with kind job) (sym c.in-Job.is) ∙ c.apply_into.ensures.answer jobs before) in
    (job, next, c.write_job.ensures.noted _ took, carries_job c.args.config.now jobs job c.write_job.result c.args.store.now c.write_job.new.store next c.write_job.ensures.wrote)

pub returns-in_default-clause-taken : goal.returns-in_default-clause-taken
returns-in_default-clause-taken g c = λ jobs stands.
    let job = c.apply_into.new.job in
    let before = subst (λ blocks. QueueStands blocks jobs c.args.queue.now) (sym c.requires.blocks) stands in
    let took = subst (λ blocks. QueueStands blocks (ops.Take ∷ jobs) c.apply_into.new.self) c.requires.blocks (c.apply_into.ensures.stands jobs before) in
    (none_out _ (job_reply_with c.apply_into.result job) (c.apply_into.ensures.answer jobs before) (none_handed c.apply_into.result job c.in_default.not-Job), took, carries_take c.args.config.now jobs c.args.store.now)

pub returns-in_default-clause-calls : goal.returns-in_default-clause-calls
returns-in_default-clause-calls g c = no_call (driver_of c.args.store.now)
