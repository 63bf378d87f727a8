-- When a queue is as after these calls.
use Rattle.std.specs.Prelude.{◌≡◌, ℕ, ◌<◌, Bool, true, false, if◌then◌else◌, List, [], ◌∷◌, slice_index_or}
use Rattle.flt_queue.specs.declared.job.Job.{Job}
use Rattle.flt_queue.specs.declared.queue.BlockState.{BlockState}
use Rattle.flt_queue.specs.declared.queue.JobQueue.{JobQueue}
use Rattle.flt_queue.specs.Queue.{History, Posted, waiting, pending, taken, last_of}

-- The jobs among these posts that are urgent or are not, as asked.
abbrev pub jobs : Bool → List Posted → List Job
jobs urgent [] = []
jobs true (post ∷ posts) = if post.urgent then post.job ∷ jobs true posts else jobs true posts
jobs false (post ∷ posts) = if post.urgent then jobs false posts else post.job ∷ jobs false posts

-- What is known of a block.
abbrev pub block_state : ℕ → History → BlockState
block_state block past = record { pending = pending block past; taken = taken block past; last = last_of block past }

-- The queue of this many blocks is as after these calls.
pub record QueueStands (blocks : ℕ) (past : History) (queue : JobQueue) : Type 0 where
  pub urgent : queue.urgent.items ≡ jobs true (waiting past)
  pub standard : queue.standard.items ≡ jobs false (waiting past)
  pub table : (block : ℕ) (d : BlockState) → block < 40 → slice_index_or queue.table block d ≡ block_state block past
