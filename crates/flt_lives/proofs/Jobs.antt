-- The jobs of a drain: one more, and its end; and what they carry on of the store.
use Rattle.std.proofs.Common.{◌≡◌, ℕ, ◌+◌, ◌<◌, Bool, not, [], ◌∷◌, Option, Some, None, inl, inr, refl, ap, sym, subst, arith}
use Rattle.std.proofs.lemmas.List.Sums.{sum_by-cons}
use Rattle.flt_config.specs.declared.config.Config.{Config}
use Rattle.flt_flash.specs.declared.blocks.Blocks.{Ghosts}
use Rattle.flt_queue.specs.declared.job.Job.{Job}
use Rattle.flt_queue.specs.declared.job.QueueOp.TheVariants as ops
use Rattle.flt_queue.specs.Reply.{QueueReply}
use Rattle.flt_queue.specs.declared.job.QueueReplyOf.TheVariants as replies
use Rattle.flt_queue.specs.declared.queue.JobQueue.{JobQueue}
use Rattle.flt_queue.specs.Queue.{History, handed_out}
use Rattle.flt_queue.specs.Stands.{QueueStands}
use Rattle.flt_store.specs.declared.store.Store.{Store}
use Rattle.flt_store.specs.Store.{driver_of}
use Rattle.flt_turn.specs.Sums.{one_if}
use Rattle.flt_life_model.specs.Applications.{AreHeld, job_behind}
use Rattle.flt_life_model.specs.Draining.{WritesJob}
use Rattle.flt_life_model.specs.SoFar.{IsCaused}
use Rattle.flt_life_model.specs.declared.answer.StepAnswer.TheVariants as answers
use Rattle.flt_life_model.proofs.Causing.{caused_job, caused_same}
use Rattle.flt_life_model.proofs.HeldBlocks.{hand_taken, held_beside, held_done}
use Rattle.flt_lives.specs.Draining.{CarriesJobs, TakenJob, HasDrained, IsDraining, IsJobTaken, behind_jobs}

-- What a take handed out was the next job.
pub job_out : (next : Option Job) (job : Job) → replies.Job job ≡ handed_out next → next ≡ Some job
job_out None job is = absurd (cc is)
job_out (Some other) job is = ap Some (sym (cc is))

-- What a take that handed out no job was answered.
pub none_out : (next : Option Job) (reply : QueueReply) → reply ≡ handed_out next → ((job : Job) → reply ≡ replies.Job job → ⊥) → next ≡ None
none_out None reply is other = refl
none_out (Some job) reply is other = absurd (other job is)

module _ {B : Type 0} {b : Ghosts B} (c : Config) where
  -- Where nothing was done.
  pub carries_nothing : (before : History) (store : Store B b) → CarriesJobs c before before 0 0 store store
  carries_nothing before store = record {
    held = λ first jobs deeds held. subst (λ n. AreHeld first before n deeds (driver_of store).value) (omega arith) held;
    caused = λ begun told some more less caused. caused_same c store begun told some more less caused;
  }

  -- After a take that found no job.
  pub carries_take : (before : History) (store : Store B b) → CarriesJobs c before (ops.Take ∷ before) 0 0 store store
  carries_take before store = record {
    held = λ first jobs deeds held. subst (λ n. AreHeld first (ops.Take ∷ before) n deeds (driver_of store).value) (omega arith) (held_beside first jobs deeds (driver_of store).value ops.Take before refl held);
    caused = λ begun told some more less caused. caused_same c store begun told some more less caused;
  }

  -- After a job that was taken, written or not, and noted.
  pub carries_job : (before : History) (job : Job) (written : Bool) (store now : Store B b) → job_behind before ≡ Some job → WritesJob c job written store now
      → CarriesJobs c before (ops.Done job.block written ∷ ops.Take ∷ before) 1 (one_if (not written)) store now
  carries_job before job written store now next put = record {
    held = λ first jobs deeds held. held_done first jobs deeds (driver_of store).value (driver_of now).value job written (ops.Take ∷ before)
        (record { either = put.either; all = put.all; others = put.others }) (hand_taken job before next) (held_beside first jobs deeds (driver_of store).value ops.Take before refl held);
    caused = λ begun told some more less caused. caused_job c store now begun told some more less (one_if (not written)) put.keeps_driver put.rose put.running caused;
  }

  -- One after the other.
  pub carries_further : (before mid after : History) (count more failed worse : ℕ) (store middle now : Store B b) → CarriesJobs c before mid count failed store middle → CarriesJobs c mid after more worse middle now
      → CarriesJobs c before after (count + more) (failed + worse) store now
  carries_further before mid after count more failed worse store middle now one two = record {
    held = λ first jobs deeds held. subst (λ n. AreHeld first after n deeds (driver_of now).value) (omega arith) (two.held first (jobs + count) deeds (one.held first jobs deeds held));
    caused = λ begun told some finally less caused.
        subst (λ n. IsCaused c begun (answers.Drained finally n ∷ told) now) (omega arith) (two.caused begun told some finally (less + failed) (one.caused begun told some some less caused));
  }

  module _ (before : History) (store : Store B b) where
    pub draining_first : (queue : JobQueue) → QueueStands c.blocks before queue → IsDraining c before 0 0 0 queue store store
    draining_first queue stands = record { jobs = []; count_is = refl; taken = tt; written_is = refl; failed_is = refl; all = refl; stands = stands; carries = carries_nothing before store }

    pub draining_more : (count written failed : ℕ) (was : Bool) (queue next : JobQueue) (middle now : Store B b) → (on : IsDraining c before count written failed queue store middle)
        → IsJobTaken c (behind_jobs before on.jobs) (Some was) next middle now → (written + one_if was) + (failed + one_if (not was)) ≡ count + 1
        → IsDraining c before (count + 1) (written + one_if was) (failed + one_if (not was)) next store now
    draining_more count written failed was queue next middle now on (job, is, stands, carries) all =
        let written_is = on.written_is in
        let failed_is = on.failed_is in
        let count_is = on.count_is in
        let more_written = sum_by-cons (λ (d : TakenJob). one_if d.1) (job, was) on.jobs in
        let more_failed = sum_by-cons (λ (d : TakenJob). one_if (not d.1)) (job, was) on.jobs in
        record {
          jobs = (job, was) ∷ on.jobs;
          count_is = omega (arith, count_is);
          taken = (is, on.taken);
          written_is = omega (arith, written_is, more_written);
          failed_is = omega (arith, failed_is, more_failed);
          all = all;
          stands = stands;
          carries = carries_further before (behind_jobs before on.jobs) _ count 1 failed (one_if (not was)) store middle now on.carries carries;
        }

    pub drains_short : (count written failed : ℕ) (queue next : JobQueue) (middle now : Store B b) → count < 32 → (on : IsDraining c before count written failed queue store middle)
        → IsJobTaken c (behind_jobs before on.jobs) None next middle now → HasDrained c before written failed next store now
    drains_short count written failed queue next middle now few on (none, stands, carries) =
        let count_is = on.count_is in
        let all = on.all in
        record {
          after = _;
          drains = record { jobs = on.jobs; taken = on.taken; written_is = on.written_is; failed_is = on.failed_is; ended = inr (omega (arith, few, count_is), none, refl) };
          stands = stands;
          carries = subst (λ n. CarriesJobs c before (ops.Take ∷ behind_jobs before on.jobs) n failed store now) (omega (arith, all))
              (subst (λ n. CarriesJobs c before (ops.Take ∷ behind_jobs before on.jobs) (count + 0) n store now) (omega arith)
              (carries_further before (behind_jobs before on.jobs) _ count 0 failed 0 store middle now on.carries carries));
        }

    pub drains_full : (written failed : ℕ) (queue : JobQueue) (now : Store B b) → (on : IsDraining c before 32 written failed queue store now) → HasDrained c before written failed queue store now
    drains_full written failed queue now on =
        let all = on.all in
        record {
          after = _;
          drains = record { jobs = on.jobs; taken = on.taken; written_is = on.written_is; failed_is = on.failed_is; ended = inl (on.count_is, refl) };
          stands = on.stands;
          carries = subst (λ n. CarriesJobs c before (behind_jobs before on.jobs) n failed store now) (sym all) on.carries;
        }
