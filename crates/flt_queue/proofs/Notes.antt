-- What a call that takes no job is answered, whichever job is beside the answer.
use Rattle.std.proofs.Common.{◌≡◌, ℕ, if◌then◌else◌, Bool, true, false, Ok, Err, IfOk, Result}
use Rattle.flt_queue.specs.declared.job.Job.{Job}
use Rattle.flt_queue.specs.declared.job.QueueOp.{QueueOp}
use Rattle.flt_queue.specs.declared.job.QueueOp.TheVariants as ops
use Rattle.flt_queue.specs.declared.job.QueueReplyOf.TheVariants as replies
use Rattle.flt_queue.specs.Reply.{QueueKind, MakesAlone, job_reply_with}
use Rattle.flt_queue.specs.Queue.{taken}
use Rattle.flt_queue.specs.Call.{Seat, IsCall, CallsAlone, CallsInto, whole}
use Rattle.flt_turn.specs.declared.answer.Answer.{Answer}
use Rattle.flt_turn.specs.declared.answer.HistoryFull.{HistoryFull}
use Rattle.flt_turn.specs.Call.{past}

-- The kind of a note is that of its reply.
noted_alone : (kind : QueueKind) (beside : Job) (counts : Bool) → job_reply_with kind beside ≡ (if counts then replies.Noted else replies.NotTaken)
    → MakesAlone kind (if counts then replies.Noted else replies.NotTaken)
noted_alone replies.Accepted beside counts is = λ job. is
noted_alone replies.BlockPending beside counts is = λ job. is
noted_alone replies.QueueFull beside counts is = λ job. is
noted_alone (replies.Job none) beside true is = absurd (cc is)
noted_alone (replies.Job none) beside false is = absurd (cc is)
noted_alone replies.NoJob beside counts is = λ job. is
noted_alone replies.Noted beside counts is = λ job. is
noted_alone replies.NotTaken beside counts is = λ job. is
noted_alone (replies.Last last) beside counts is = λ job. is

note_at : (before after : Seat) (block : ℕ) (written : Bool) (beside : Job) (told : Result (Answer QueueKind) (HistoryFull QueueOp))
    → IfOk told (λ told. IsCall before after (ops.Done block written) (whole told beside)) → IfOk told (λ told. (job : Job) → IsCall before after (ops.Done block written) (whole told job))
note_at before after block written beside (Ok told) call = λ job. record {
  place = call.place;
  reply = noted_alone told.reply beside (taken block (past told.place after.seen)) call.reply job;
  admitted = call.admitted;
}
note_at before after block written beside (Err full) call = tt

pub note_alone : (before after : Seat) (block : ℕ) (written : Bool) (beside : Job) (told : Result (Answer QueueKind) (HistoryFull QueueOp))
    → CallsInto before after (ops.Done block written) beside told → CallsAlone before after (ops.Done block written) told
note_alone before after block written beside told calls = record {
  full = calls.full;
  refused = calls.refused;
  call = note_at before after block written beside told calls.call;
}
