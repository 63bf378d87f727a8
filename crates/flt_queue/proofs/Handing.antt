-- A kind that is not that of a job makes no answer with a job.
use Rattle.std.proofs.Common.{◌≡◌, refl}
use Rattle.flt_queue.specs.declared.job.Job.{Job}
use Rattle.flt_queue.specs.declared.job.QueueReplyOf.TheVariants as replies
use Rattle.flt_queue.specs.Reply.{QueueKind, job_reply_with}

pub none_handed : (kind : QueueKind) (beside : Job) → ((none : Unit {0}) → kind ≡ replies.Job none → ⊥) → (job : Job) → job_reply_with kind beside ≡ replies.Job job → ⊥
none_handed replies.Accepted beside other job is = cc is
none_handed replies.BlockPending beside other job is = cc is
none_handed replies.QueueFull beside other job is = cc is
none_handed (replies.Job none) beside other job is = other none refl
none_handed replies.NoJob beside other job is = cc is
none_handed replies.Noted beside other job is = cc is
none_handed replies.NotTaken beside other job is = cc is
none_handed (replies.Last last) beside other job is = cc is
