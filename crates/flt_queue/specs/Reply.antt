-- What the queue answers, whatever it has in the place of a job that was taken.
use Rattle.std.specs.Prelude.{◌≡◌}
use Rattle.flt_queue.specs.declared.job.Job.{Job}
use Rattle.flt_queue.specs.declared.job.QueueReplyOf.{QueueReplyOf}
use Rattle.flt_queue.specs.declared.job.QueueReplyOf.TheVariants as replies

-- The answer with the job that was taken.
abbrev pub QueueReply : Type 0
QueueReply = QueueReplyOf Job

-- The answer whose job is kept elsewhere.
abbrev pub QueueKind : Type 0
QueueKind = QueueReplyOf (Unit {0})

-- The same answer, in which a job that was taken is this one.
abbrev pub job_reply_with : {J K : Type 0} → QueueReplyOf J → K → QueueReplyOf K
job_reply_with replies.Accepted job = replies.Accepted
job_reply_with replies.BlockPending job = replies.BlockPending
job_reply_with replies.QueueFull job = replies.QueueFull
job_reply_with (replies.Job other) job = replies.Job job
job_reply_with replies.NoJob job = replies.NoJob
job_reply_with replies.Noted job = replies.Noted
job_reply_with replies.NotTaken job = replies.NotTaken
job_reply_with (replies.Last last) job = replies.Last last

-- Whichever job is beside it, the kind is this answer.
abbrev pub MakesAlone : QueueKind → QueueReply → Type 0
MakesAlone kind reply = (job : Job) → job_reply_with kind job ≡ reply
