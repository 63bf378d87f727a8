-- What the queue of write jobs does, of the calls that it took, the newest first (AUTOSAR NvM, in outline).
use Rattle.std.specs.Prelude.{ℕ, ◌<◌, ◌≤◌, nat_lt, ◌==◌, Bool, true, false, if◌then◌else◌, List, [], ◌∷◌, ◌++◌, length, Option, Some, None}
use Rattle.flt_queue.specs.declared.job.Job.{Job}
use Rattle.flt_queue.specs.declared.job.LastResult.{LastResult}
use Rattle.flt_queue.specs.declared.job.LastResult.TheVariants.{Never, Pending, Written, Failed}
use Rattle.flt_queue.specs.declared.job.QueueOp.{QueueOp}
use Rattle.flt_queue.specs.declared.job.QueueOp.TheVariants as ops
use Rattle.flt_queue.specs.Reply.{QueueKind, QueueReply, job_reply_with}
use Rattle.flt_queue.specs.declared.job.QueueReplyOf.TheVariants as replies

-- The calls since the queue was made, the newest first.
abbrev pub History : Type 0
History = List QueueOp

-- A job of 1 to 32 bytes, for one of these blocks.
abbrev pub IsJob : ℕ → Job → Type 0
IsJob blocks job = (job.block < blocks) × (0 < length job.bytes.items) × (length job.bytes.items ≤ 32)

-- The calls that a queue of this many blocks takes.
abbrev pub IsQueueCallFor : ℕ → QueueOp → Type 0
IsQueueCallFor blocks (ops.Post urgent job) = IsJob blocks job
IsQueueCallFor blocks ops.Take = Unit {0}
IsQueueCallFor blocks (ops.Done block written) = block < blocks
IsQueueCallFor blocks (ops.Ask block) = block < blocks

-- ---- the jobs that wait

-- An accepted post.
pub record Posted : Type 0 where
  pub urgent : Bool
  pub job : Job

abbrev pub posted : Bool → Job → Posted
posted urgent job = record { urgent = urgent; job = job }

-- Whether one of these is urgent.
abbrev pub some_urgent : List Posted → Bool
some_urgent [] = false
some_urgent (post ∷ posts) = if post.urgent then true else some_urgent posts

-- The earliest of these that is urgent or is not, as asked.
abbrev pub earliest : Bool → List Posted → Option Job
earliest urgent [] = None
earliest true (post ∷ posts) = if post.urgent then Some post.job else earliest true posts
earliest false (post ∷ posts) = if post.urgent then earliest false posts else Some post.job

-- The others.
abbrev pub without_earliest : Bool → List Posted → List Posted
without_earliest urgent [] = []
without_earliest true (post ∷ posts) = if post.urgent then posts else post ∷ without_earliest true posts
without_earliest false (post ∷ posts) = if post.urgent then post ∷ without_earliest false posts else posts

-- The job that is taken next: the earliest urgent one, else the earliest standard one.
abbrev pub next_of : List Posted → Option Job
next_of posts = earliest (some_urgent posts) posts

-- Whether it is of this block.
abbrev pub is_job_of : ℕ → Option Job → Bool
is_job_of block None = false
is_job_of block (Some job) = job.block == block

-- ---- what a call does

unfoldable mutual
  -- The accepted posts that are not taken, in their order.
  pub waiting : History → List Posted
  waiting [] = []
  waiting (ops.Post urgent job ∷ past) =
      if (if pending job.block past then false else nat_lt (length (waiting past)) 32) then waiting past ++ posted urgent job ∷ [] else waiting past
  waiting (ops.Take ∷ past) = without_earliest (some_urgent (waiting past)) (waiting past)
  waiting (ops.Done block written ∷ past) = waiting past
  waiting (ops.Ask block ∷ past) = waiting past

  -- A job of the block was accepted, and no result of it counted since.
  pub pending : ℕ → History → Bool
  pending block [] = false
  pending block (ops.Post urgent job ∷ past) = if job.block == block
      then (if (if pending job.block past then false else nat_lt (length (waiting past)) 32) then true else pending block past)
      else pending block past
  pending block (ops.Take ∷ past) = pending block past
  pending block (ops.Done done written ∷ past) = if done == block then (if taken block past then false else pending block past) else pending block past
  pending block (ops.Ask asked ∷ past) = pending block past

  -- A job of the block was taken, and no result of it counted since.
  pub taken : ℕ → History → Bool
  taken block [] = false
  taken block (ops.Post urgent job ∷ past) = taken block past
  taken block (ops.Take ∷ past) = if is_job_of block (next_of (waiting past)) then true else taken block past
  taken block (ops.Done done written ∷ past) = if done == block then false else taken block past
  taken block (ops.Ask asked ∷ past) = taken block past

-- What became of a job that was done.
abbrev pub last_result_of : Bool → LastResult
last_result_of true = Written
last_result_of false = Failed

-- The last result of the block that counted.
abbrev pub last_of : ℕ → History → LastResult
last_of block [] = Never
last_of block (ops.Post urgent job ∷ past) = last_of block past
last_of block (ops.Take ∷ past) = last_of block past
last_of block (ops.Done done written ∷ past) = if done == block then (if taken block past then last_result_of written else last_of block past)
    else last_of block past
last_of block (ops.Ask asked ∷ past) = last_of block past

-- ---- what is answered to a call

abbrev pub handed_out : Option Job → QueueReply
handed_out None = replies.NoJob
handed_out (Some job) = replies.Job job

abbrev pub answer_q : History → QueueOp → QueueReply
answer_q past (ops.Post urgent job) =
    if pending job.block past then replies.BlockPending else (if nat_lt (length (waiting past)) 32 then replies.Accepted else replies.QueueFull)
answer_q past ops.Take = handed_out (next_of (waiting past))
answer_q past (ops.Done block written) = if taken block past then replies.Noted else replies.NotTaken
answer_q past (ops.Ask block) = replies.Last (if pending block past then Pending else last_of block past)

-- A job in an answer is one for these blocks.
abbrev pub IsFor : ℕ → QueueReply → Type 0
IsFor blocks replies.Accepted = Unit {0}
IsFor blocks replies.BlockPending = Unit {0}
IsFor blocks replies.QueueFull = Unit {0}
IsFor blocks (replies.Job job) = IsJob blocks job
IsFor blocks replies.NoJob = Unit {0}
IsFor blocks replies.Noted = Unit {0}
IsFor blocks replies.NotTaken = Unit {0}
IsFor blocks (replies.Last last) = Unit {0}

-- So it is in the answer of this kind, whichever job is beside it.
abbrev pub IsForAlone : ℕ → QueueKind → Type 0
IsForAlone blocks kind = (job : Job) → IsFor blocks (job_reply_with kind job)
