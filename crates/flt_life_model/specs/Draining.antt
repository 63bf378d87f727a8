-- What a drain does: which jobs it takes from the queue, and the calls that it makes.
use Rattle.std.specs.Prelude.{◌≡◌, ◌⊎◌, ◌*◌, ◌<◌, ℕ, Bool, true, not, List, [], ◌∷◌, ◌++◌, length, sum_by, IsFalse}
use Rattle.flt_flash.specs.Calls.{Follows, OthersKept}
use Rattle.flt_flash.specs.Content.{bytes as holding}
use Rattle.flt_flash.specs.State.{HasRisenBy}
use Rattle.flt_flash.specs.declared.blocks.Blocks.{Ghosts}
use Rattle.flt_config.specs.declared.config.Config.{Config}
use Rattle.flt_store_model.specs.Holding.{Generation}
use Rattle.flt_store_model.specs.Layout.{application_number}
use Rattle.flt_store.specs.declared.store.Store.{Store}
use Rattle.flt_store.specs.Store.{IsRunning, driver_of}
use Rattle.flt_turn.specs.declared.answer.Answer.{Answer}
use Rattle.flt_turn.specs.Sums.{one_if}
use Rattle.flt_queue.specs.declared.job.Job.{Job}
use Rattle.flt_queue.specs.declared.job.QueueOp.{QueueOp}
use Rattle.flt_queue.specs.declared.job.QueueOp.TheVariants as ops
use Rattle.flt_queue.specs.Reply.{QueueReply}
use Rattle.flt_queue.specs.declared.job.QueueReplyOf.TheVariants as replies
use Rattle.flt_fork.specs.Mixing.{Call}

abbrev pub QueueCall : Type 0
QueueCall = Call QueueOp QueueReply

-- A take that had this answer at a place.
abbrev pub take_at : ℕ → QueueReply → QueueCall
take_at place reply = record { op = ops.Take; told = record { place = place; reply = reply } }

-- A job that was taken at a place, whether it was written, and the queue's answer to that note.
pub record Drained : Type 0 where
  pub place : ℕ
  pub job : Job
  pub written : Bool
  pub noted : Answer QueueReply

-- The two calls for a job.
abbrev pub calls_for : Drained → List QueueCall
calls_for d = take_at d.place (replies.Job d.job) ∷ record { op = ops.Done d.job.block d.written; told = d.noted } ∷ []

abbrev pub calls_for_all : List Drained → List QueueCall
calls_for_all [] = []
calls_for_all (d ∷ jobs) = calls_for d ++ calls_for_all jobs

-- The last take, which found no job; after the 32nd job there is none.
abbrev pub IsLastTake : ℕ → List QueueCall → Type 0
IsLastTake jobs [] = jobs ≡ 32
IsLastTake jobs (call ∷ calls) = (jobs < 32) × ((place : ℕ) × (call ≡ take_at place replies.NoJob)) × (calls ≡ [])

-- A drain takes jobs, at most 32, notes what became of each, and ends when no job waits.
pub record DrainMakes (written failed : ℕ) (calls : List QueueCall) : Type 0 where
  pub jobs : List Drained
  pub last : List QueueCall
  pub ended : IsLastTake (length jobs) last
  pub calls_are : calls ≡ calls_for_all jobs ++ last
  pub written_is : written ≡ sum_by (λ d. one_if d.written) jobs
  pub failed_is : failed ≡ sum_by (λ d. one_if (not d.written)) jobs

module _ {B : Type 0} {b : Ghosts B} where
  -- A job was written to its block, or could not be, and each other block was left as it was. Where the last sequence number is not in
  -- use after it, a job that could not be written met three faults.
  pub record WritesJob (c : Config) (job : Job) (written : Bool) (store now : Store B b) : Type 0 where
    pub all : written ≡ true → (driver_of now).value (application_number job.block) ≡ holding job.bytes.items
    pub either : ((driver_of now).value (application_number job.block) ≡ (driver_of store).value (application_number job.block))
        ⊎ ((driver_of now).value (application_number job.block) ≡ holding job.bytes.items)
    pub others : OthersKept (application_number job.block) (driver_of store) (driver_of now)
    pub running : (held spare : Generation) → IsRunning c held spare store → IsRunning c held spare now
    pub rose : (held spare : Generation) → IsRunning c held spare store → IsFalse (driver_of now).is_spent
        → HasRisenBy (3 * one_if (not written)) (driver_of store).device.faults (driver_of now).device.faults
    pub keeps_driver : Follows (driver_of store) (driver_of now)
