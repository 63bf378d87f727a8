-- What becomes of the jobs that are posted.
use Rattle.std.specs.Prelude.{◌≡◌, ◌≢◌, ◌↔◌, ℕ, ◌==◌, ◌+◌, ◌<◌, ◌≤◌, length, Bool, true, false, if◌then◌else◌, List, [], ◌∷◌, ◌++◌}
use Rattle.flt_queue.specs.declared.job.Job.{Job}
use Rattle.flt_queue.specs.declared.job.LastResult.{LastResult}
use Rattle.flt_queue.specs.declared.job.LastResult.TheVariants.{Never, Pending, Written, Failed}
use Rattle.flt_queue.specs.declared.job.QueueOp.{QueueOp}
use Rattle.flt_queue.specs.declared.job.QueueOp.TheVariants as ops
use Rattle.flt_turn.specs.Sums.{one_if}
use Rattle.flt_queue.specs.Reply.{QueueReply}
use Rattle.flt_queue.specs.declared.job.QueueReplyOf.TheVariants as replies
use Rattle.flt_queue.specs.Queue.{History, Posted, waiting, pending, taken, some_urgent, answer_q}
use Rattle.flt_queue.specs.Stands.{jobs, block_state}

-- The jobs of a kind, and after them the job, where it is of that kind.
abbrev pub with_job : Bool → Bool → Job → List Job → List Job
with_job true true job items = items ++ job ∷ []
with_job true false job items = items
with_job false true job items = items
with_job false false job items = items ++ job ∷ []

-- The jobs of a kind, and after them the job of a post that was accepted.
abbrev pub with_accepted : Bool → Bool → Job → QueueReply → List Job → List Job
with_accepted kind urgent job replies.Accepted items = with_job kind urgent job items
with_accepted kind urgent job replies.BlockPending items = items
with_accepted kind urgent job replies.QueueFull items = items
with_accepted kind urgent job (replies.Job other) items = items
with_accepted kind urgent job replies.NoJob items = items
with_accepted kind urgent job replies.Noted items = items
with_accepted kind urgent job replies.NotTaken items = items
with_accepted kind urgent job (replies.Last last) items = items

-- The jobs of a kind, and after them the job that was handed out.
abbrev pub with_handed : Bool → Bool → QueueReply → List Job → List Job
with_handed kind urgent replies.Accepted items = items
with_handed kind urgent replies.BlockPending items = items
with_handed kind urgent replies.QueueFull items = items
with_handed kind urgent (replies.Job job) items = with_job kind urgent job items
with_handed kind urgent replies.NoJob items = items
with_handed kind urgent replies.Noted items = items
with_handed kind urgent replies.NotTaken items = items
with_handed kind urgent (replies.Last last) items = items

-- The jobs whose posts were accepted, in their order: the urgent ones, or the standard ones.
abbrev pub accepted_jobs : Bool → History → List Job
accepted_jobs kind [] = []
accepted_jobs kind (ops.Post urgent job ∷ past) = with_accepted kind urgent job (answer_q past (ops.Post urgent job)) (accepted_jobs kind past)
accepted_jobs kind (ops.Take ∷ past) = accepted_jobs kind past
accepted_jobs kind (ops.Done block written ∷ past) = accepted_jobs kind past
accepted_jobs kind (ops.Ask block ∷ past) = accepted_jobs kind past

-- The jobs that were handed out, in their order: those taken while an urgent job waited, which are urgent, or the others.
abbrev pub handed : Bool → History → List Job
handed kind [] = []
handed kind (ops.Post urgent job ∷ past) = handed kind past
handed kind (ops.Take ∷ past) = with_handed kind (some_urgent (waiting past)) (answer_q past ops.Take) (handed kind past)
handed kind (ops.Done block written ∷ past) = handed kind past
handed kind (ops.Ask block ∷ past) = handed kind past

-- The accepted jobs of a kind are those that were handed out and after them those that wait. So each job that is handed out was
-- posted, none is handed out twice, none is lost, and of each kind the oldest is handed out first.
abbrev pub FirstInFirstOut : Type 0
FirstInFirstOut = (kind : Bool) (past : History) → accepted_jobs kind past ≡ handed kind past ++ jobs kind (waiting past)

-- How many of these posts are for the block.
abbrev pub many_of : ℕ → List Posted → ℕ
many_of block [] = 0
many_of block (post ∷ posts) = one_if (post.job.block == block) + many_of block posts

-- A job of the block was accepted and is not taken.
abbrev pub is_due : ℕ → History → Bool
is_due block past = if taken block past then false else pending block past

-- One job of a block waits where the block is pending and its job is not taken, and else none.
abbrev pub OneOfABlock : Type 0
OneOfABlock = (block : ℕ) (past : History) → many_of block (waiting past) ≡ one_if (is_due block past)

-- A job that is handed out is of a block that is pending, and of which no job is taken and not done.
abbrev pub HandedOutIsDue : Type 0
HandedOutIsDue = (past : History) (job : Job) → answer_q past ops.Take ≡ replies.Job job → is_due job.block past ≡ true

-- Whether the call was refused, or found nothing to do.
abbrev pub is_call_refused : QueueReply → Bool
is_call_refused replies.Accepted = false
is_call_refused replies.BlockPending = true
is_call_refused replies.QueueFull = true
is_call_refused (replies.Job job) = false
is_call_refused replies.NoJob = true
is_call_refused replies.Noted = false
is_call_refused replies.NotTaken = true
is_call_refused (replies.Last last) = false

-- Of the queue all is as before.
pub record IsSame (before after : History) : Type 0 where
  pub waiting : waiting after ≡ waiting before
  pub blocks : (block : ℕ) → block_state block after ≡ block_state block before

-- A call that is refused changes nothing.
abbrev pub RefusedChangesNothing : Type 0
RefusedChangesNothing = (past : History) (op : QueueOp) → is_call_refused (answer_q past op) ≡ true → IsSame past (op ∷ past)

-- At most 32 jobs wait.
abbrev pub FewWait : Type 0
FewWait = (past : History) → length (waiting past) ≤ 32

-- What a call, by its answer, makes of what is reported of a block: from a post of it that was accepted on its job is pending, and from a
-- result of it that was noted on, that result is reported.
abbrev pub result_by : ℕ → QueueOp → QueueReply → LastResult → LastResult
result_by block (ops.Post urgent job) replies.Accepted before = if job.block == block then Pending else before
result_by block (ops.Done done true) replies.Noted before = if done == block then Written else before
result_by block (ops.Done done false) replies.Noted before = if done == block then Failed else before
result_by block _ _ before = before

-- What is reported of a block after these calls: Never before the first call that says something of it.
abbrev pub result_told : ℕ → History → LastResult
result_told block [] = Never
result_told block (op ∷ past) = result_by block op (answer_q past op) (result_told block past)

-- An ask is answered so.
abbrev pub AskTellsLast : Type 0
AskTellsLast = (block : ℕ) (past : History) → answer_q past (ops.Ask block) ≡ replies.Last (result_told block past)

-- How many jobs were accepted, or handed out, urgent and standard ones.
abbrev pub count_made : (Bool → History → List Job) → History → ℕ
count_made made past = length (made true past) + length (made false past)

-- A post of a block whose job is pending is refused for that; another is refused exactly where 32 jobs more were accepted than were
-- handed out, and else it is accepted.
pub record PostIsAnswered (past : History) (urgent : Bool) (job : Job) : Type 0 where
  pub busy : result_told job.block past ≡ Pending → answer_q past (ops.Post urgent job) ≡ replies.BlockPending
  pub full : result_told job.block past ≢ Pending → (answer_q past (ops.Post urgent job) ≡ replies.QueueFull) ↔ (count_made accepted_jobs past ≡ count_made handed past + 32)
  pub taken : result_told job.block past ≢ Pending → count_made accepted_jobs past < count_made handed past + 32 → answer_q past (ops.Post urgent job) ≡ replies.Accepted

abbrev pub PostsAreAnswered : Type 0
PostsAreAnswered = (past : History) (urgent : Bool) (job : Job) → PostIsAnswered past urgent job
