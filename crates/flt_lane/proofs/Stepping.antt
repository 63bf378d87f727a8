-- What one step makes of its seats.
use Rattle.std.proofs.Common.{◌≡◌, ℕ, ◌≤◌, ◌<◌, List, [], ◌∷◌, ◌++◌, length, reverse, arith, refl, sym, ap, subst, ◌∙◌}
use Rattle.std.proofs.lemmas.List.{append-nil}
use Rattle.flt_config.specs.declared.config.Config.{Config}
use Rattle.flt_config.specs.declared.persist.Persist.{Persist}
use Rattle.flt_config.specs.Durable.{Fits}
use Rattle.flt_config.specs.Validity.{IsValid}
use Rattle.flt_dcm.specs.ReplyKind.{ReplyKind, reply_with}
use Rattle.flt_model.specs.declared.TheConstants.{RESPONSE}
use Rattle.flt_model.specs.Start.{Start, History}
use Rattle.flt_model.specs.Answer.{answer}
use Rattle.flt_model.specs.Durable.{saved_after}
use Rattle.flt_model.proofs.SavedFits.{saved_states_fit}
use Rattle.flt_model.specs.declared.call.Op.{Op}
use Rattle.flt_model.specs.declared.call.Op.TheVariants as ops
use Rattle.flt_model.specs.Reply.{Reply}
use Rattle.flt_queue.specs.Call as queued
use Rattle.flt_queue.specs.Queue as queue
use Rattle.flt_queue.specs.declared.job.QueueOp.{QueueOp}
use Rattle.flt_queue.specs.Reply.{QueueReply}
use Rattle.flt_queue.specs.declared.job.QueueReplyOf.TheVariants as replies
use Rattle.flt_step.specs.declared.step.Step.{Step}
use Rattle.flt_step.specs.declared.step.Step.TheVariants as steps
use Rattle.flt_store.specs.declared.fault.SaveFault.{SaveFault}
use Rattle.flt_store.specs.declared.store.Store.{Store}
use Rattle.flt_flash.specs.declared.blocks.Blocks.{Ghosts}
use Rattle.flt_turn.specs.declared.answer.Answer.{Answer}
use Rattle.flt_turn.specs.Seats.{ops_before}
use Rattle.flt_shared.specs.Call.{Seat, IsCall, MayBeAsked, reply_after}
use Rattle.flt_life_model.specs.Actions.{IsPossible, action_of, call_count, queue_count, response_size}
use Rattle.flt_life_model.specs.Answers.{Told, queue_reply_size, reply_size}
use Rattle.flt_life_model.specs.Draining.{calls_for_all, take_at}
use Rattle.flt_life_model.specs.Played.{ActionMakes, ActionQueues, StepMakes, StepQueues}
use Rattle.flt_life_model.specs.declared.action.Action.TheVariants as action
use Rattle.flt_life_model.proofs.Responses.{answer_size, asked_size, size_most}
use Rattle.flt_life_model.specs.declared.answer.StepAnswer.TheVariants as answers
use Rattle.flt_fork.specs.Chain.{Chain}
use Rattle.flt_lane.specs.Draining.{FindsNone, HasDrained}
use Rattle.flt_lane.specs.Runs.{Makes, Queues, QueueSeat}
use Rattle.flt_fork.proofs.Chains.{chain_fact, chain_more, chain_of_one}

-- ---- calls of the status machine

-- A step of one call.
pub one_made : (before : Seat) (step : Step) (op : Op) (told : Answer Reply) (after : Seat) → action_of step ≡ action.Call op → IsCall before after op told → Makes before step (answers.Dem told) after
one_made before step op told after makes call = record {
  calls = record { op = op; told = told } ∷ [];
  made = subst (λ a. ActionMakes a (answers.Dem told) (record { op = op; told = told } ∷ [])) (sym makes) (told, refl, refl);
  chain = chain_of_one MayBeAsked reply_after before record { op = op; told = told } after call;
  left = let left = call.place.left in let one = ap call_count makes in omega (arith, left, one);
}

-- A step of none.
pub none_made : (seat : Seat) (step : Step) (told : Told) → StepMakes step told [] → Makes seat step told seat
unfolding Chain
none_made seat step told made = record { calls = []; made = made; chain = refl; left = omega arith }

-- A save of one call, and of two.
pub failed_made : (before : Seat) (fault : SaveFault) (taken : Answer Reply) (after : Seat) → IsCall before after ops.Snapshot taken → Makes before steps.Save (answers.SaveFailed fault) after
failed_made before fault taken after call = record {
  calls = record { op = ops.Snapshot; told = taken } ∷ [];
  made = (taken, refl);
  chain = chain_of_one MayBeAsked reply_after before record { op = ops.Snapshot; told = taken } after call;
  left = let left = call.place.left in omega (arith, left);
}

pub saved_made : (before mid : Seat) (number : ℕ) (taken noted : Answer Reply) (after : Seat) → IsCall before mid ops.Snapshot taken → IsCall mid after (ops.Saved number) noted → Makes before steps.Save (answers.Saved number) after
saved_made before mid number taken noted after first second = record {
  calls = record { op = ops.Snapshot; told = taken } ∷ record { op = ops.Saved number; told = noted } ∷ [];
  made = (taken, noted, refl);
  chain = chain_more MayBeAsked reply_after before (record { op = ops.Snapshot; told = taken } ∷ []) mid (record { op = ops.Saved number; told = noted } ∷ []) after
      (chain_of_one MayBeAsked reply_after before record { op = ops.Snapshot; told = taken } mid first)
      (chain_of_one MayBeAsked reply_after mid record { op = ops.Saved number; told = noted } after second);
  left = let one = first.place.left in let two = second.place.left in omega (arith, one, two);
}

-- What a snapshot takes fits.
pub taken_fits : (c : Config) (start : Start) (past : History) (state : Persist) → start.config ≡ c → IsValid c → Fits c start.base → state ≡ saved_after start past → Fits c state
taken_fits c start past state same valid fits is =
    subst (Fits c) (sym is) (subst (λ k. Fits k (saved_after start past)) same (saved_states_fit start past (subst IsValid (sym same) valid) (subst (λ k. Fits k start.base) (sym same) fits)))

-- ---- a response is an answer to a request alone

pub size_of_answer : (start : Start) (past : History) (op : Op) (reply : Reply) → reply ≡ answer start past op → reply_size reply ≤ RESPONSE → reply_size reply ≤ response_size (action.Call op)
size_of_answer start past (ops.Request tester bytes) reply is most = most
size_of_answer start past op reply is most = let size = ap reply_size is ∙ answer_size start past op (λ tester. tester) in omega (arith, size)

pub size_of_told : (start : Start) (past : History) (op : Op) (kind : ReplyKind) (bytes : List ℕ) → reply_with kind bytes ≡ answer start past op → length bytes ≤ RESPONSE → reply_size (reply_with kind bytes) ≤ response_size (action.Call op)
size_of_told start past op kind bytes is most = size_of_answer start past op (reply_with kind bytes) is (size_most kind bytes most)

-- ---- no post and no question is answered with a job

pub size_of_queued : (c : Config) (before after : QueueSeat) (op : QueueOp) (told : Answer QueueReply) → IsPossible c (action.Queue op) → queued.IsCall before after op told → queue_reply_size told.reply ≡ 0
size_of_queued c before after op told possible call = ap queue_reply_size call.reply ∙ asked_size (reverse (ops_before told.place after.seen)) op possible.0

-- ---- calls of the queue

pub one_queued : (before : QueueSeat) (step : Step) (op : QueueOp) (told : Answer QueueReply) (after : QueueSeat) → action_of step ≡ action.Queue op → queued.IsCall before after op told → Queues before step (answers.Queue told) after
one_queued before step op told after makes call = record {
  calls = record { op = op; told = told } ∷ [];
  made = subst (λ a. ActionQueues a (answers.Queue told) (record { op = op; told = told } ∷ [])) (sym makes) (told, refl, refl);
  chain = chain_of_one queue.IsQueueCallFor queued.reply_after before record { op = op; told = told } after call;
  left = let left = call.place.left in let one = ap queue_count makes in omega (arith, left, one);
}

pub none_queued : (seat : QueueSeat) (step : Step) (told : Told) → StepQueues step told [] → Queues seat step told seat
unfolding Chain
none_queued seat step told made = record { calls = []; made = made; chain = refl; left = omega arith }

-- ---- a drain

module _ {B : Type 0} {b : Ghosts B} (c : Config) where
  -- It took 32 jobs.
  pub full_drained : (before after : QueueSeat) (written failed : ℕ) (store now : Store B b) → HasDrained c before after written failed 32 store now → Queues before steps.Drain (answers.Drained written failed) after
  full_drained before after written failed store now drained = record {
    calls = calls_for_all drained.jobs;
    made = record {
      jobs = drained.jobs;
      last = [];
      ended = drained.count_is;
      calls_are = sym (append-nil (calls_for_all drained.jobs));
      written_is = drained.written_is;
      failed_is = drained.failed_is;
    };
    chain = drained.chain;
    left = let left = drained.calls_used in omega (arith, left);
  }

  -- It found no more.
  pub short_drained : (before mid after : QueueSeat) (written failed count : ℕ) (store middle now : Store B b) → count < 32 → HasDrained c before mid written failed count store middle → FindsNone c mid after middle now
      → Queues before steps.Drain (answers.Drained written failed) after
  short_drained before mid after written failed count store middle now few drained none =
      let last = take_at none.place replies.NoJob in
      let fact = chain_fact queue.IsQueueCallFor queued.reply_after mid (last ∷ []) after none.chain in
      let count_is = drained.count_is in
      record {
        calls = calls_for_all drained.jobs ++ last ∷ [];
        made = record {
          jobs = drained.jobs;
          last = last ∷ [];
          ended = (omega (arith, few, count_is), (none.place, refl), refl);
          calls_are = refl;
          written_is = drained.written_is;
          failed_is = drained.failed_is;
        };
        chain = chain_more queue.IsQueueCallFor queued.reply_after before (calls_for_all drained.jobs) mid (last ∷ []) after drained.chain none.chain;
        left = let left = drained.calls_used in let one = fact.left_is in omega (arith, left, one, few);
      }
