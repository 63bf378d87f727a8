-- What the calls of a drain leave of the application blocks, by what the seat of the queue knows of the journal.
use Rattle.std.proofs.Common.{◌≡◌, ℕ, ◌≤◌, ◌+◌, ◌*◌, Bool, true, false, not, List, [], ◌∷◌, ◌++◌, Option, Some, None, reverse, refl, ap, subst, sym, arith, ◌∙◌}
use Rattle.std.proofs.lemmas.List.{append-nil, append_assoc, length-append}
use Rattle.std.proofs.lemmas.List.Sums.{sum_by_push}
use Rattle.flt_flash.specs.Content.{Content}
use Rattle.flt_flash.specs.declared.blocks.Blocks.{Ghosts}
use Rattle.flt_config.specs.declared.config.Config.{Config}
use Rattle.flt_queue.specs.declared.job.Job.{Job}
use Rattle.flt_queue.specs.declared.job.QueueOp.{QueueOp}
use Rattle.flt_queue.specs.declared.job.QueueOp.TheVariants as ops
use Rattle.flt_queue.specs.Reply.{QueueReply}
use Rattle.flt_queue.specs.declared.job.QueueReplyOf.TheVariants as replies
use Rattle.flt_queue.specs.Call as queued
use Rattle.flt_queue.specs.Queue as queue
use Rattle.flt_queue.specs.Queue.{handed_out, next_of, waiting}
use Rattle.flt_store.specs.declared.store.Store.{Store}
use Rattle.flt_store.specs.Store.{driver_of}
use Rattle.flt_turn.specs.declared.answer.Answer.{Answer}
use Rattle.flt_turn.specs.declared.vault.Entry.{Entry}
use Rattle.flt_turn.specs.Journal.{entry}
use Rattle.flt_turn.specs.Sums.{one_if}
use Rattle.flt_life_model.specs.Applications.{AreHeld, job_behind}
use Rattle.flt_life_model.specs.Draining.{Drained, calls_for, calls_for_all}
use Rattle.flt_life_model.specs.Ordered.{Deed}
use Rattle.flt_life_model.specs.declared.answer.StepAnswer.TheVariants as answers
use Rattle.flt_life_model.specs.SoFar.{IsCaused}
use Rattle.flt_fork.specs.Chain.{Chain}
use Rattle.flt_life_model.proofs.Causing.{caused_same}
use Rattle.flt_lane.specs.Draining.{DrainsOn, HasDrained, MakesJobs, TakesJob}
use Rattle.flt_lane.specs.Living.{HoldsBy, drain_call, drains_in}
use Rattle.flt_lane.specs.Runs.{QueueSeat}
use Rattle.flt_life_model.proofs.HeldBlocks.{IsInHand, IsWritten, hand_taken, held_beside, held_done}
use Rattle.flt_lane.proofs.Applying.{drains-append, hand_further, held_further, newest_more, newest_of, queue_calls}
use Rattle.flt_fork.proofs.Chains.{chain_fact, chain_more}
use Rattle.flt_fork.proofs.Knowing.{Since, since, knows_all}
use Rattle.flt_lane.proofs.Leaving.{leaves_nothing, leaves_further}

abbrev IsCall : QueueSeat → QueueSeat → QueueOp → Answer QueueReply → Type 0
IsCall = queued.IsCall

-- How many calls of drains a call leaves.
many : (known more seen : List (Entry QueueOp)) (e : Entry QueueOp) → seen ≡ (known ++ more) ++ e ∷ [] → drains_in seen ≡ drains_in known + drains_in more + drain_call e.op
many known more seen e is =
    let one = drains-append (known ++ more) (e ∷ []) in
    let two = drains-append known more in
    let all = ap drains_in is in
    omega (arith, one, two, all)

newest_seen : (front seen : List (Entry QueueOp)) (e : Entry QueueOp) → seen ≡ front ++ e ∷ [] → newest_of seen ≡ e.op ∷ newest_of front
newest_seen front seen e is = ap newest_of is ∙ newest_more front e

-- The job that was handed out.
handed_job : (next : Option Job) (job : Job) → replies.Job job ≡ handed_out next → next ≡ Some job
handed_job None job is = absurd (cc)
handed_job (Some other) job is = ap Some (same other job (sym is))
  where
    job_of : Job → QueueReply → Job
    job_of other (replies.Job job) = job
    job_of other replies.Accepted = other
    job_of other replies.BlockPending = other
    job_of other replies.QueueFull = other
    job_of other replies.NoJob = other
    job_of other replies.Noted = other
    job_of other replies.NotTaken = other
    job_of other (replies.Last last) = other

    same : (other job : Job) → replies.Job other ≡ replies.Job job → other ≡ job
    same other job is = ap (job_of other) is

-- ---- a take

module _ (first : ℕ → Content) (before after : QueueSeat) (told : Answer QueueReply) (call : IsCall before after ops.Take told) (calls jobs : ℕ) (deeds : List Deed) (values : ℕ → Content)
    (holds : HoldsBy first before calls jobs deeds values) where
  abbrev at_take : Since holds.known before after ops.Take told.place
  at_take = since holds.known before after ops.Take told.place holds.is_known call.place

  abbrev front_take : List (Entry QueueOp)
  front_take = holds.known ++ at_take.more

  -- What is held just before the take.
  held_front : drains_in after.seen ≤ calls + 1 → AreHeld first (newest_of front_take) jobs deeds values
  held_front few =
      let all = many holds.known at_take.more after.seen (entry before.number ops.Take) at_take.seen in
      let least = holds.least in
      held_further first jobs deeds values holds.known at_take.more (queue_calls at_take.more (omega (arith, all, few, least))) (holds.held (omega (arith, all, few)))

  held_taken : drains_in after.seen ≤ calls + 1 → AreHeld first (newest_of after.seen) jobs deeds values
  held_taken few =
      subst (λ l. AreHeld first l jobs deeds values) (sym (newest_seen front_take after.seen (entry before.number ops.Take) at_take.seen))
      (held_beside first jobs deeds values ops.Take (newest_of front_take) refl (held_front few))

  pub least_taken : calls + 1 ≤ drains_in after.seen
  least_taken = let all = many holds.known at_take.more after.seen (entry before.number ops.Take) at_take.seen in let least = holds.least in omega (arith, all, least)

  pub holds_taken : HoldsBy first after (calls + 1) jobs deeds values
  holds_taken = record {
    known = after.seen;
    is_known = knows_all after;
    least = least_taken;
    held = held_taken;
  }

-- The job that a take handed out is in hand.
pub in_hand : (before after : QueueSeat) (told : Answer QueueReply) (job : Job) → IsCall before after ops.Take told → told.reply ≡ replies.Job job → IsInHand job (newest_of after.seen)
in_hand before after told job call is =
    let at : Since before.seen before after ops.Take told.place = since before.seen before after ops.Take told.place (knows_all before) call.place in
    let front = before.seen ++ at.more in
    let reply : replies.Job job ≡ handed_out (job_behind (newest_of front)) = sym is ∙ call.reply ∙ ap (λ l. handed_out (next_of (waiting (reverse l)))) at.ops_are in
    subst (IsInHand job) (sym (newest_seen front after.seen (entry before.number ops.Take) at.seen)) (hand_taken job (newest_of front) (handed_job (job_behind (newest_of front)) job reply))

-- ---- the note of what became of a job, right after its take

module _ (first : ℕ → Content) (before mid after : QueueSeat) (taken noted : Answer QueueReply) (job : Job) (written : Bool) (take : IsCall before mid ops.Take taken) (is_job : taken.reply ≡ replies.Job job)
    (done : IsCall mid after (ops.Done job.block written) noted) (calls jobs : ℕ) (deeds : List Deed) (values now : ℕ → Content) (wrote : IsWritten job written values now) (holds : HoldsBy first before calls jobs deeds values) where
  abbrev at_done : Since mid.seen mid after (ops.Done job.block written) noted.place
  at_done = since mid.seen mid after (ops.Done job.block written) noted.place (knows_all mid) done.place

  noted_is : drains_in after.seen ≡ drains_in mid.seen + drains_in at_done.more + 1
  noted_is = many mid.seen at_done.more after.seen (entry mid.number (ops.Done job.block written)) at_done.seen

  mid_least : calls + 1 ≤ drains_in mid.seen
  mid_least = least_taken first before mid taken take calls jobs deeds values holds

  held_noted : drains_in after.seen ≤ calls + 2 → AreHeld first (newest_of after.seen) (jobs + 1) deeds now
  held_noted few =
      let all = noted_is in
      let least = mid_least in
      let between = queue_calls at_done.more (omega (arith, all, few, least)) in
      let front = mid.seen ++ at_done.more in
      let held = held_further first jobs deeds values mid.seen at_done.more between (held_taken first before mid taken take calls jobs deeds values holds (omega (arith, all, few))) in
      let hand = hand_further job mid.seen at_done.more between (in_hand before mid taken job take is_job) in
      subst (λ l. AreHeld first l (jobs + 1) deeds now) (sym (newest_seen front after.seen (entry mid.number (ops.Done job.block written)) at_done.seen))
      (held_done first jobs deeds values now job written (newest_of front) wrote hand held)

  pub holds_noted : HoldsBy first after (calls + 2) (jobs + 1) deeds now
  holds_noted = record {
    known = after.seen;
    is_known = knows_all after;
    least = (let all = noted_is in let least = mid_least in omega (arith, all, least));
    held = held_noted;
  }

-- ---- one after the other

all_calls_more : (jobs : List Drained) (job : Drained) → calls_for_all (jobs ++ job ∷ []) ≡ calls_for_all jobs ++ calls_for job
all_calls_more [] job = append-nil (calls_for job)
all_calls_more (first ∷ jobs) job = ap (λ l. calls_for first ++ l) (all_calls_more jobs job) ∙ sym (append_assoc (calls_for first) (calls_for_all jobs) (calls_for job))

module _ {B : Type 0} {b : Ghosts B} (c : Config) where
  pub drains_nothing : (seat : QueueSeat) (store : Store B b) → DrainsOn c seat seat 0 0 0 store store
  drains_nothing seat store = record {
    running = λ held spare running. running;
    holds = λ first earlier done deeds holds.
        subst (λ n. HoldsBy first seat n (done + 0) deeds (driver_of store).value) (omega arith) (subst (λ n. HoldsBy first seat earlier n deeds (driver_of store).value) (omega arith) holds);
    caused = λ begun told some more less caused.
        caused_same c store begun told some more less caused;
    leaves = leaves_nothing store;
  }

  pub drains_further : (before mid after : QueueSeat) (calls more jobs others failed worse all every bad : ℕ) (store middle now : Store B b) → all ≡ calls + more → every ≡ jobs + others → bad ≡ failed + worse
      → DrainsOn c before mid calls jobs failed store middle → DrainsOn c mid after more others worse middle now → DrainsOn c before after all every bad store now
  drains_further before mid after calls more jobs others failed worse all every bad store middle now all_is every_is bad_is one two = record {
    running = λ held spare running. two.running held spare (one.running held spare running);
    holds = λ first earlier done deeds holds.
        (let both = two.holds first (earlier + calls) (done + jobs) deeds (one.holds first earlier done deeds holds) in
        subst (λ n. HoldsBy first after n (done + every) deeds (driver_of now).value) (omega (arith, all_is)) (subst (λ n. HoldsBy first after ((earlier + calls) + more) n deeds (driver_of now).value) (omega (arith, every_is)) both));
    caused = λ begun told some finally less caused.
        (let both = two.caused begun told some finally (less + failed) (one.caused begun told some some less caused) in
        subst (λ n. IsCaused c begun (answers.Drained finally n ∷ told) now) (omega (arith, bad_is)) both);
    leaves = leaves_further store middle now one.leaves two.leaves;
  }

  pub drained_first : (seat : QueueSeat) (store : Store B b) → HasDrained c seat seat 0 0 0 store store
  unfolding Chain
  drained_first seat store = record {
    jobs = [];
    count_is = refl;
    written_is = refl;
    failed_is = refl;
    all = refl;
    chain = refl;
    drains = drains_nothing seat store;
    calls_used = omega arith;
    start = refl;
    lock = refl;
  }

  pub drained_more : (before mid after : QueueSeat) (written failed count : ℕ) (was : Bool) (store middle now : Store B b) → HasDrained c before mid written failed count store middle → TakesJob c mid after was middle now
      → HasDrained c before after (written + one_if was) (failed + one_if (not was)) (count + 1) store now
  drained_more before mid after written failed count was store middle now so_far takes =
      let job = takes.job in
      let jobs = so_far.jobs ++ job ∷ [] in
      let fact = chain_fact queue.IsQueueCallFor queued.reply_after mid (calls_for job) after takes.chain in
      let left = fact.left_is in
      let before_left = so_far.calls_used in
      let count_is = so_far.count_is in
      let written_is = so_far.written_is in
      let failed_is = so_far.failed_is in
      let all = so_far.all in
      let one = ap one_if takes.written_is in
      let none = ap (λ w. one_if (not w)) takes.written_is in
      record {
        jobs = jobs;
        count_is = (let len = length-append so_far.jobs (job ∷ []) in omega (arith, len, count_is));
        written_is = (let sum = sum_by_push (λ (d : Drained). one_if d.written) so_far.jobs job in omega (arith, sum, written_is, one));
        failed_is = (let sum = sum_by_push (λ (d : Drained). one_if (not d.written)) so_far.jobs job in omega (arith, sum, failed_is, none));
        all = (let either = one_of_both was in omega (arith, all, either));
        chain = subst (λ l. MakesJobs before l after) (sym (all_calls_more so_far.jobs job))
            (chain_more queue.IsQueueCallFor queued.reply_after before (calls_for_all so_far.jobs) mid (calls_for job) after so_far.chain takes.chain);
        drains = drains_further before mid after (2 * count) 2 count 1 failed (one_if (not was)) (2 * (count + 1)) (count + 1) (failed + one_if (not was)) store middle now (omega arith) (omega arith) (omega arith)
            so_far.drains takes.drains;
        calls_used = omega (arith, left, before_left);
        start = fact.start_is ∙ so_far.start;
        lock = fact.lock_is ∙ so_far.lock;
      }
    where
      one_of_both : (was : Bool) → one_if was + one_if (not was) ≡ 1
      one_of_both true = refl
      one_of_both false = refl
