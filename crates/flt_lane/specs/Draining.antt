-- A drain on its way.
use Rattle.std.specs.Prelude.{◌≡◌, ℕ, ◌+◌, ◌*◌, ◌≤◌, Bool, not, List, [], ◌∷◌, length, sum_by, Option, Some, None}
use Rattle.flt_flash.specs.Content.{Content}
use Rattle.flt_flash.specs.declared.blocks.Blocks.{Ghosts}
use Rattle.flt_config.specs.declared.config.Config.{Config}
use Rattle.flt_store_model.specs.Holding.{Generation}
use Rattle.flt_queue.specs.Call as queued
use Rattle.flt_queue.specs.Queue as queue
use Rattle.flt_queue.specs.declared.job.QueueReplyOf.TheVariants.{NoJob}
use Rattle.flt_store.specs.declared.store.Store.{Store}
use Rattle.flt_store.specs.Store.{IsRunning, driver_of}
use Rattle.flt_turn.specs.Sums.{one_if}
use Rattle.flt_life_model.specs.Answers.{Told}
use Rattle.flt_life_model.specs.Draining.{Drained, QueueCall, calls_for, calls_for_all, take_at}
use Rattle.flt_life_model.specs.Ordered.{Deed}
use Rattle.flt_life_model.specs.declared.answer.StepAnswer.TheVariants as answers
use Rattle.flt_life_model.specs.SoFar.{IsCaused}
use Rattle.flt_fork.specs.Chain.{Chain}
use Rattle.flt_lane.specs.Living.{HoldsBy}
use Rattle.flt_lane.specs.Runs.{QueueSeat}
use Rattle.flt_lane.specs.Stored.{LeavesStore}

-- Calls of the queue, between what their seat knew before and after.
abbrev pub MakesJobs : QueueSeat → List QueueCall → QueueSeat → Type 0
MakesJobs before calls after = Chain queue.IsQueueCallFor queued.reply_after before calls after

module _ {B : Type 0} {b : Ghosts B} where
  -- What this many calls of a drain, with this many jobs, of which some failed, carry on of the store.
  pub record DrainsOn (c : Config) (before after : QueueSeat) (calls jobs failed : ℕ) (store now : Store B b) : Type 0 where
    -- A store that ran with two generations runs with them.
    pub running : (held spare : Generation) → IsRunning c held spare store → IsRunning c held spare now
    -- Each application block holds what the jobs so far may have left, and these.
    pub holds : (first : ℕ → Content) (earlier done : ℕ) (deeds : List Deed) → HoldsBy first before earlier done deeds (driver_of store).value
        → HoldsBy first after (earlier + calls) (done + jobs) deeds (driver_of now).value
    -- If each failure had its cause, so has each of these.
    pub caused : (begun : ℕ) (told : List Told) (some more less : ℕ) → IsCaused c begun (answers.Drained some less ∷ told) store
        → IsCaused c begun (answers.Drained more (less + failed) ∷ told) now
    -- No arm was made.
    pub leaves : LeavesStore store now

  -- A job was taken, written or not, and noted.
  pub record TakesJob (c : Config) (before after : QueueSeat) (written : Bool) (store now : Store B b) : Type 0 where
    -- The job, with its places in the journal.
    pub job : Drained
    -- It was written, or was not.
    pub written_is : job.written ≡ written
    -- The seat made the calls that take it and note it.
    pub chain : MakesJobs before (calls_for job) after
    -- The store was carried on by one job.
    pub drains : DrainsOn c before after 2 1 (one_if (not written)) store now

  -- No job waits.
  pub record FindsNone (c : Config) (before after : QueueSeat) (store now : Store B b) : Type 0 where
    -- The place of the call that found none.
    pub place : ℕ
    -- The seat made this call.
    pub chain : MakesJobs before (take_at place NoJob ∷ []) after
    -- The store is as it was.
    pub drains : DrainsOn c before after 1 0 0 store now

  -- The next job was looked for: what was found, where there was one, and whether it was written.
  abbrev pub LooksForJob : Config → QueueSeat → QueueSeat → Option Bool → Store B b → Store B b → Type 0
  LooksForJob c before after None store now = FindsNone c before after store now
  LooksForJob c before after (Some written) store now = TakesJob c before after written store now

  -- This many jobs were taken.
  pub record HasDrained (c : Config) (before after : QueueSeat) (written failed count : ℕ) (store now : Store B b) : Type 0 where
    -- The jobs, each with its places in the journal.
    pub jobs : List Drained
    -- They are this many.
    pub count_is : length jobs ≡ count
    -- This many of them were written.
    pub written_is : written ≡ sum_by (λ d. one_if d.written) jobs
    -- This many could not be.
    pub failed_is : failed ≡ sum_by (λ d. one_if (not d.written)) jobs
    -- Each was written or could not be.
    pub all : written + failed ≡ count
    -- The seat made the calls that take them and note them.
    pub chain : MakesJobs before (calls_for_all jobs) after
    -- The store was carried on by them.
    pub drains : DrainsOn c before after (2 * count) count failed store now
    -- Each took two calls.
    pub calls_used : before.left ≤ after.left + 2 * count
    -- The start of the queue is the same.
    pub start : after.start ≡ before.start
    -- The seat is of the same lock.
    pub lock : after.lock ≡ before.lock
