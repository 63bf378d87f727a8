-- How many bytes of a response an answer has, and of a job.
use Rattle.std.proofs.Common.{◌≡◌, ◌≤◌, ℕ, Bool, true, false, if◌then◌else◌, nat_lt, List, length, refl, arith}
use Rattle.std.specs.Prelude.{Option, Some, None}
use Rattle.flt_dcm.specs.Unit.{IsTesterCall}
use Rattle.flt_dcm.specs.ReplyKind.{ReplyKind, reply_with}
use Rattle.flt_model.specs.Answer.{answer, report_reply}
use Rattle.flt_model.specs.Happening.{readiness, cause_of}
use Rattle.flt_model.specs.Start.{Start, History}
use Rattle.flt_model.specs.declared.TheConstants.{RESPONSE}
use Rattle.flt_model.specs.declared.call.Cause.{Cause}
use Rattle.flt_model.specs.declared.call.Op.{Op}
use Rattle.flt_model.specs.declared.call.Op.TheVariants as ops
use Rattle.flt_model.specs.declared.call.ReplyOf.TheVariants as kinds
use Rattle.flt_queue.specs.Queue as queue
use Rattle.flt_queue.specs.declared.job.QueueOp.{QueueOp}
use Rattle.flt_queue.specs.declared.job.QueueOp.TheVariants as queue_ops
use Rattle.flt_queue.specs.declared.job.QueueReplyOf.TheVariants as replies
use Rattle.flt_life_model.specs.Actions.{IsQueueCall}
use Rattle.flt_life_model.specs.Answers.{queue_reply_size, reply_size}

-- A response has at most this many bytes.
pub size_most : (kind : ReplyKind) (response : List ℕ) → length response ≤ RESPONSE → reply_size (reply_with kind response) ≤ RESPONSE
size_most (kinds.Response _) response few = few
size_most kind response few = omega arith

-- A reply to a call of no tester is no response.
report_size : (cause : Option Cause) → reply_size (report_reply cause) ≡ 0
report_size None = refl
report_size (Some cause) = refl

pub answer_size : (life : Start) (past : History) (op : Op) → ¬ IsTesterCall op → reply_size (answer life past op) ≡ 0
answer_size life past (ops.Request tester bytes) other = absurd (other tt)
answer_size life past (ops.Report event report) other = report_size (cause_of (readiness life event past))
answer_size life past (ops.Signal index value) other = refl
answer_size life past (ops.Enable condition fulfilled) other = refl
answer_size life past (ops.Tick ticks) other = refl
answer_size life past (ops.Cycle cycle) other = refl
answer_size life past (ops.Show event) other = refl
answer_size life past ops.Snapshot other = refl
answer_size life past (ops.Saved number) other = refl

-- No post and no question is answered with a job.
post_size : (pends fits : Bool) → queue_reply_size (if pends then replies.BlockPending else (if fits then replies.Accepted else replies.QueueFull)) ≡ 0
post_size true fits = refl
post_size false true = refl
post_size false false = refl

pub asked_size : (past : queue.History) (op : QueueOp) → IsQueueCall op → queue_reply_size (queue.answer_q past op) ≡ 0
asked_size past (queue_ops.Post urgent job) asked = post_size (queue.pending job.block past) (nat_lt (length (queue.waiting past)) 32)
asked_size past queue_ops.Take asked = absurd asked
asked_size past (queue_ops.Done block written) asked = absurd asked
asked_size past (queue_ops.Ask block) asked = refl
