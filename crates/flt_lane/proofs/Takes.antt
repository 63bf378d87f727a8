-- One job of a drain: it is taken, written, and noted; or none waits.
use Rattle.std.proofs.Common.{◌≡◌, ◌+◌, Bool, not, [], ◌∷◌, Option, Some, None, refl, subst, arith}
use Rattle.flt_flash.specs.declared.blocks.Blocks.{Ghosts}
use Rattle.flt_config.specs.declared.config.Config.{Config}
use Rattle.flt_queue.specs.Call as queued
use Rattle.flt_queue.specs.Queue as queue
use Rattle.flt_queue.specs.Queue.{handed_out}
use Rattle.flt_queue.specs.declared.job.Job.{Job}
use Rattle.flt_queue.specs.declared.job.QueueOp.TheVariants as ops
use Rattle.flt_queue.specs.Reply.{QueueReply}
use Rattle.flt_queue.specs.declared.job.QueueReplyOf.TheVariants as replies
use Rattle.flt_store.specs.declared.store.Store.{Store}
use Rattle.flt_store.specs.Store.{driver_of}
use Rattle.flt_turn.specs.declared.answer.Answer.{Answer}
use Rattle.flt_turn.specs.Sums.{one_if}
use Rattle.flt_life_model.specs.Draining.{WritesJob, take_at}
use Rattle.flt_lane.specs.Draining.{FindsNone, MakesJobs, TakesJob}
use Rattle.flt_lane.specs.Living.{HoldsBy}
use Rattle.flt_lane.specs.Runs.{QueueSeat}
use Rattle.flt_life_model.proofs.HeldBlocks.{IsWritten}
use Rattle.flt_fork.proofs.Chains.{chain_more, chain_of_one}
use Rattle.flt_life_model.proofs.Causing.{caused_job, caused_same}
use Rattle.flt_lane.proofs.Drains.{holds_noted, holds_taken}
use Rattle.flt_lane.proofs.Leaving.{leaves_by_calls, leaves_nothing}

-- What a take that handed out no job was answered.
no_job : (next : Option Job) (reply : QueueReply) → reply ≡ handed_out next → ((job : Job) → reply ≡ replies.Job job → ⊥) → reply ≡ replies.NoJob
no_job None reply is other = is
no_job (Some job) reply is other = absurd (other job is)

chain_of_take : (before after : QueueSeat) (told : Answer QueueReply) (reply : QueueReply) → told.reply ≡ reply → queued.IsCall before after ops.Take told → MakesJobs before (take_at told.place reply ∷ []) after
chain_of_take before after told reply is call =
    subst (λ r. MakesJobs before (take_at told.place r ∷ []) after) is
    (chain_of_one queue.IsQueueCallFor queued.reply_after before record { op = ops.Take; told = told } after call)

-- ---- no job waits

pub finds_none : {B : Type 0} {b : Ghosts B} (c : Config) (before after : QueueSeat) (told : Answer QueueReply) (store : Store B b) → queued.IsCall before after ops.Take told → ((job : Job) → told.reply ≡ replies.Job job → ⊥)
    → FindsNone c before after store store
finds_none c before after told store call other = record {
  place = told.place;
  chain = chain_of_take before after told replies.NoJob (no_job _ told.reply call.reply other) call;
  drains = record {
    running = λ held spare running. running;
    holds = λ first earlier done deeds holds.
        subst (λ n. HoldsBy first after (earlier + 1) n deeds (driver_of store).value) (omega arith) (holds_taken first before after told call earlier done deeds (driver_of store).value holds);
    caused = λ begun told some more less caused. caused_same c store begun told some more less caused;
    leaves = leaves_nothing store;
  };
}

-- ---- a job was written, or was not

module _ {B : Type 0} {b : Ghosts B} (c : Config) (before mid after : QueueSeat) (taken noted : Answer QueueReply) (job : Job) (written : Bool) (store now : Store B b) where
  pub takes_job : queued.IsCall before mid ops.Take taken → taken.reply ≡ replies.Job job → queued.IsCall mid after (ops.Done job.block written) noted → WritesJob c job written store now → TakesJob c before after written store now
  takes_job take is_job done put =
      let wrote : IsWritten job written (driver_of store).value (driver_of now).value = record { either = put.either; all = put.all; others = put.others } in
      record {
        job = record { place = taken.place; job = job; written = written; noted = noted };
        written_is = refl;
        chain = chain_more queue.IsQueueCallFor queued.reply_after before (take_at taken.place (replies.Job job) ∷ []) mid (record { op = ops.Done job.block written; told = noted } ∷ []) after
            (chain_of_take before mid taken (replies.Job job) is_job take) (chain_of_one queue.IsQueueCallFor queued.reply_after mid record { op = ops.Done job.block written; told = noted } after done);
        drains = record {
          running = put.running;
          holds = λ first earlier jobs deeds holds.
              holds_noted first before mid after taken noted job written take is_job done earlier jobs deeds (driver_of store).value (driver_of now).value wrote holds;
          caused = λ begun told some more less caused. caused_job c store now begun told some more less (one_if (not written)) put.keeps_driver put.rose put.running caused;
          leaves = leaves_by_calls store now put.keeps_driver;
        };
      }
