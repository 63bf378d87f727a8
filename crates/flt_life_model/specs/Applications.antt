-- What the application blocks hold, by the drains of a life: all lists begin with the newest.
use Rattle.std.specs.Prelude.{◌≡◌, ◌⊎◌, ◌<◌, ◌≤◌, ◌+◌, ◌==◌, ◌&&◌, nat_le, ℕ, Bool, true, false, if◌then◌else◌, List, [], ◌∷◌, map, Option, Some, None, IsTrue}
use Rattle.flt_flash.specs.Content.{Content, missing, bytes as holding}
use Rattle.flt_store_model.specs.Layout.{applications, application_number}
use Rattle.flt_queue.specs.declared.job.Job.{Job}
use Rattle.flt_queue.specs.declared.job.QueueOp.{QueueOp}
use Rattle.flt_queue.specs.declared.job.QueueOp.TheVariants as ops
use Rattle.flt_queue.specs.Queue.{History, is_job_of, next_of, waiting}
use Rattle.flt_life_model.specs.Actions.{action_of}
use Rattle.flt_life_model.specs.Answers.{Told}
use Rattle.flt_life_model.specs.Ordered.{Deed}
use Rattle.flt_life_model.specs.declared.action.Action.{Action}
use Rattle.flt_life_model.specs.declared.action.Action.TheVariants.{Get}
use Rattle.flt_life_model.specs.declared.answer.StepAnswer.TheVariants.{Drained, Bytes, NoBlock}

-- The job that a take would hand out after these calls.
abbrev pub job_behind : History → Option Job
job_behind past = next_of (waiting past)

-- The job of a block that was taken last.
abbrev pub last_taken : ℕ → History → Option Job
last_taken block [] = None
last_taken block (ops.Take ∷ past) = if is_job_of block (job_behind past) then job_behind past else last_taken block past
last_taken block (_ ∷ past) = last_taken block past

-- These are the bytes of the job.
abbrev pub IsBytesOf : Option Job → Content → Type 0
IsBytesOf None held = ⊥
IsBytesOf (Some job) held = held ≡ holding job.bytes.items

-- One of two, as asked.
abbrev pub Choose : Bool → Type 0 → Type 0 → Type 0
Choose true first second = first
Choose false first second = second

-- An application block may hold this after these calls of the queue: the bytes of a job that was taken for it, and not one before
-- the last that was finished as written; if no job was, also what it held at first.
abbrev pub MayHold : ℕ → Content → History → Content → Type 0
MayHold block first [] held = held ≡ first
MayHold block first (ops.Take ∷ past) held = (IsTrue (is_job_of block (job_behind past)) × IsBytesOf (job_behind past) held) ⊎ MayHold block first past held
MayHold block first (ops.Done done written ∷ past) held = Choose (written && (done == block)) (IsBytesOf (last_taken block past) held)
    (MayHold block first past held)
MayHold block first (_ ∷ past) held = MayHold block first past held

-- Each application block holds what it may.
abbrev pub HoldApplications : (ℕ → Content) → History → (ℕ → Content) → Type 0
HoldApplications first past held = (block : ℕ) → block < applications → MayHold block (first (application_number block)) past (held (application_number block))

-- The number of finished jobs.
abbrev pub is_done : QueueOp → Bool
is_done (ops.Done block written) = true
is_done _ = false

abbrev pub done_count : History → ℕ
done_count [] = 0
done_count (op ∷ past) = if is_done op then done_count past + 1 else done_count past

-- The calls up to that by which this many jobs were finished.
abbrev pub up_to_done : ℕ → History → History
up_to_done jobs [] = []
up_to_done jobs (op ∷ past) = if nat_le jobs (done_count past) then up_to_done jobs past else op ∷ past

-- The number of jobs that drains reported as finished.
abbrev pub jobs_told : List Told → ℕ
jobs_told [] = 0
jobs_told (Drained written failed ∷ earlier) = jobs_told earlier + (written + failed)
jobs_told (_ ∷ earlier) = jobs_told earlier

-- A read answers by the drains before it.
abbrev pub GetsBy : (ℕ → Content) → History → List Deed → Action → Told → Type 0
GetsBy first queue earlier (Get block) (Bytes bytes) =
    MayHold block (first (application_number block)) (up_to_done (jobs_told (map (λ d. d.1) earlier)) queue) (holding bytes.items)
GetsBy first queue earlier (Get block) NoBlock = MayHold block (first (application_number block))
    (up_to_done (jobs_told (map (λ d. d.1) earlier)) queue) missing
GetsBy first queue earlier _ _ = Unit {0}

-- So does each read among these deeds.
abbrev pub AreGot : (ℕ → Content) → History → List Deed → Type 0
AreGot first queue [] = Unit {0}
AreGot first queue (deed ∷ earlier) = GetsBy first queue earlier (action_of deed.0) deed.1 × AreGot first queue earlier

-- The answers of deeds.
abbrev pub answers_of : List Deed → List Told
answers_of deeds = map (λ d. d.1) deeds

-- The application blocks hold what the jobs may have left that are done so far, and each read was answered by those before it.
pub record AreHeld (first : ℕ → Content) (past : History) (jobs : ℕ) (deeds : List Deed) (values : ℕ → Content) : Type 0 where
  pub counts_jobs : jobs ≡ done_count past
  pub held : HoldApplications first (up_to_done jobs past) values
  pub got : AreGot first past deeds
  pub told : jobs_told (answers_of deeds) ≤ jobs
