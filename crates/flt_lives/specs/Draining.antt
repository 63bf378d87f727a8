-- The jobs of a drain, where nobody else calls the queue; all lists begin with the newest.
use Rattle.std.specs.Prelude.{◌≡◌, ◌⊎◌, ◌<◌, ◌+◌, ℕ, Bool, not, List, [], ◌∷◌, length, sum_by, Option, Some, None}
use Rattle.flt_config.specs.declared.config.Config.{Config}
use Rattle.flt_flash.specs.Content.{Content}
use Rattle.flt_flash.specs.declared.blocks.Blocks.{Ghosts}
use Rattle.flt_queue.specs.declared.job.Job.{Job}
use Rattle.flt_queue.specs.declared.job.QueueOp.TheVariants.{Take, Done}
use Rattle.flt_queue.specs.declared.queue.JobQueue.{JobQueue}
use Rattle.flt_queue.specs.Queue.{History}
use Rattle.flt_queue.specs.Stands.{QueueStands}
use Rattle.flt_turn.specs.Sums.{one_if}
use Rattle.flt_store.specs.declared.store.Store.{Store}
use Rattle.flt_store.specs.Store.{driver_of}
use Rattle.flt_life_model.specs.Answers.{Told}
use Rattle.flt_life_model.specs.Applications.{AreHeld, job_behind}
use Rattle.flt_life_model.specs.Ordered.{Deed}
use Rattle.flt_life_model.specs.SoFar.{IsCaused}
use Rattle.flt_life_model.specs.declared.answer.StepAnswer.TheVariants as answers

-- A job that was taken, and whether it was written.
abbrev pub TakenJob : Type 0
TakenJob = Job × Bool

-- The calls of the queue once these jobs were taken, each with the note of what became of it.
abbrev pub behind_jobs : History → List TakenJob → History
behind_jobs before [] = before
behind_jobs before (drained ∷ earlier) = Done drained.0.block drained.1 ∷ Take ∷ behind_jobs before earlier

-- Each is the job that was to be taken then.
abbrev pub AreTaken : History → List TakenJob → Type 0
AreTaken before [] = Unit {0}
AreTaken before (drained ∷ earlier) = (job_behind (behind_jobs before earlier) ≡ Some drained.0) × AreTaken before earlier

-- How many were written, and how many could not be.
abbrev pub written_in : List TakenJob → ℕ
written_in jobs = sum_by (λ d. one_if d.1) jobs

abbrev pub failed_in : List TakenJob → ℕ
failed_in jobs = sum_by (λ d. one_if (not d.1)) jobs

-- A drain ends with the 32nd job, or when no job waits.
abbrev pub IsDrained : History → List TakenJob → History → Type 0
IsDrained before jobs after = ((length jobs ≡ 32) × (after ≡ behind_jobs before jobs))
    ⊎ ((length jobs < 32) × (job_behind (behind_jobs before jobs) ≡ None) × (after ≡ Take ∷ behind_jobs before jobs))

-- A drain took these calls of the queue to those.
pub record Drains (before : History) (written failed : ℕ) (after : History) : Type 0 where
  -- The jobs that it took, with what became of each.
  pub jobs : List TakenJob
  -- They are the next jobs of the queue, in order.
  pub taken : AreTaken before jobs
  -- As many were written as it answers.
  pub written_is : written ≡ written_in jobs
  -- As many failed as it answers.
  pub failed_is : failed ≡ failed_in jobs
  -- It ended with the 32nd job, or when no job waited.
  pub ended : IsDrained before jobs after

module _ {B : Type 0} {b : Ghosts B} where
  -- What this many jobs, of which some could not be written, carry on of the store, between these calls of the queue.
  pub record CarriesJobs (c : Config) (before after : History) (count failed : ℕ) (store now : Store B b) : Type 0 where
    -- Each application block holds what the deeds and the jobs so far left there.
    pub held : (first : ℕ → Content) (jobs : ℕ) (deeds : List Deed) → AreHeld first before jobs deeds (driver_of store).value
        → AreHeld first after (jobs + count) deeds (driver_of now).value
    -- If so many more failures are answered, each failure still has its cause.
    pub caused : (begun : ℕ) (told : List Told) (some more less : ℕ) → IsCaused c begun (answers.Drained some less ∷ told) store
        → IsCaused c begun (answers.Drained more (less + failed) ∷ told) now

  -- The next job was taken, and it was noted whether it was written; or none waits.
  abbrev pub IsJobTaken : Config → History → Option Bool → JobQueue → (store now : Store B b) → Type 0
  IsJobTaken c before None queue store now = (job_behind before ≡ None) × QueueStands c.blocks (Take ∷ before) queue
      × CarriesJobs c before (Take ∷ before) 0 0 store now
  IsJobTaken c before (Some written) queue store now = (job : Job) × (job_behind before ≡ Some job)
      × QueueStands c.blocks (Done job.block written ∷ Take ∷ before) queue
      × CarriesJobs c before (Done job.block written ∷ Take ∷ before) 1 (one_if (not written)) store now

  -- A drain took this many jobs so far.
  pub record IsDraining (c : Config) (before : History) (count written failed : ℕ) (queue : JobQueue) (store now : Store B b) : Type 0 where
    -- The jobs that it took, with what became of each.
    pub jobs : List TakenJob
    -- They are as many as it counted.
    pub count_is : length jobs ≡ count
    -- They are the next jobs of the queue, in order.
    pub taken : AreTaken before jobs
    -- As many were written as it counted.
    pub written_is : written ≡ written_in jobs
    -- As many failed as it counted.
    pub failed_is : failed ≡ failed_in jobs
    -- Each was written or failed.
    pub all : written + failed ≡ count
    -- The queue is in the state that these jobs lead to.
    pub stands : QueueStands c.blocks (behind_jobs before jobs) queue
    -- The store has what they wrote.
    pub carries : CarriesJobs c before (behind_jobs before jobs) count failed store now

  -- A drain took the queue from these calls to others, and carried on the store.
  pub record HasDrained (c : Config) (before : History) (written failed : ℕ) (queue : JobQueue) (store now : Store B b) : Type 0 where
    -- The calls of the queue after the drain.
    pub after : History
    -- The drain took the queue from the calls before to them.
    pub drains : Drains before written failed after
    -- The queue is in the state that they lead to.
    pub stands : QueueStands c.blocks after queue
    -- The store has what the jobs wrote.
    pub carries : CarriesJobs c before after (written + failed) failed store now
