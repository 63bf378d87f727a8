-- What a call of the locked queue answers.
use Rattle.std.specs.Prelude.{ℕ, List, Result, reverse}
use Rattle.flt_queue.specs.Queue.{IsQueueCallFor, answer_q}
use Rattle.flt_queue.specs.declared.job.Job.{Job}
use Rattle.flt_queue.specs.declared.job.QueueOp.{QueueOp}
use Rattle.flt_queue.specs.Reply.{QueueKind, QueueReply, job_reply_with}
use Rattle.flt_turn.specs.declared.answer.Answer.{Answer}
use Rattle.flt_turn.specs.declared.answer.HistoryFull.{HistoryFull}
use Rattle.flt_turn.specs.Call as turn
use Rattle.flt_turn.specs.Seats.{Seated}

-- What is known of a seat. The lock begins with the number of its blocks.
abbrev pub Seat : Type 0
Seat = Seated ℕ QueueOp

-- The queue's reply after these calls, the oldest first, whatever the number of its blocks.
abbrev pub reply_after : ℕ → List QueueOp → QueueOp → QueueReply
reply_after blocks calls op = answer_q (reverse calls) op

-- The whole answer of a call, with this job if one was taken.
abbrev pub whole : Answer QueueKind → Job → Answer QueueReply
whole told job = turn.whole job_reply_with told job

-- A call is at the place that its answer gives, and its reply is the queue's after the calls before that place.
abbrev pub IsCall : Seat → Seat → QueueOp → Answer QueueReply → Type 0
IsCall before after op told = turn.IsCall IsQueueCallFor reply_after before after op told

-- What a call answers, whether it is made or refused.
abbrev pub Calls : Seat → Seat → QueueOp → Result (Answer QueueReply) (HistoryFull QueueOp) → Type 0
Calls before after op result = turn.Calls (IsCall before after op) before after op result

-- The same of a call whose answer has only the kind of the reply, beside the job that was taken.
abbrev pub CallsInto : Seat → Seat → QueueOp → Job → Result (Answer QueueKind) (HistoryFull QueueOp) → Type 0
CallsInto before after op job result = turn.Calls (λ told. IsCall before after op (whole told job)) before after op result

-- The same of a call that takes no job: so it is whichever job is beside the answer.
abbrev pub CallsAlone : Seat → Seat → QueueOp → Result (Answer QueueKind) (HistoryFull QueueOp) → Type 0
CallsAlone before after op result = turn.Calls (λ told. (job : Job) → IsCall before after op (whole told job)) before after op result
