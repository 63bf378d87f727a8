-- A step that leaves the store alone.
use Rattle.std.proofs.Common.{◌≡◌, ◌≢◌, ◌<◌, ℕ, Bool, true, false, List, [], ap, get_or, length, refl, subst, sym, ◌∙◌}
use Rattle.std.specs.Prelude.{IsTrue}
use Rattle.std.proofs.lemmas.Bool.{false≢true, true≢false}
use Rattle.std.proofs.lemmas.List.Folds.{list_any_at}
use Rattle.flt_config.specs.declared.config.Config.{Config}
use Rattle.flt_flash.specs.declared.arm.Arm.{Arm}
use Rattle.flt_flash.specs.declared.blocks.Blocks.{Ghosts}
use Rattle.flt_life_model.specs.Actions.{action_of, arms_of}
use Rattle.flt_life_model.specs.Answers.{Told}
use Rattle.flt_life_model.specs.Ordered.{Deed, deed_if, with_deed}
use Rattle.flt_life_model.specs.declared.action.Action.{Action}
use Rattle.flt_life_model.specs.declared.action.Action.TheVariants as action
use Rattle.flt_life_model.proofs.ByAction.{may_stand, stands, touches_by, touches_store}
use Rattle.flt_queue.specs.Call as queued
use Rattle.flt_queue.specs.Queue as queue
use Rattle.flt_step.specs.Step.{has_store_step, is_lane_step, is_store_step}
use Rattle.flt_step.specs.declared.step.Step.{Step}
use Rattle.flt_shared.specs.Call.{MayBeAsked, Seat, reply_after}
use Rattle.flt_store.specs.declared.store.Store.{Store}
use Rattle.flt_lane.specs.Living.{Carries}
use Rattle.flt_lane.specs.Runs.{Makes, QueueSeat, Queues}
use Rattle.flt_lane.specs.Stepped.{IsLockCall}
use Rattle.flt_lane.specs.KeptLaws.{carries_beside}
use Rattle.flt_fork.proofs.Knowing.{known_along}

-- ---- it makes a call, and does nothing else

call_by : (does : Action) → touches_store does ≡ false → may_stand does ≡ true → IsLockCall does
call_by (action.Call op) off stands = tt
call_by (action.Queue op) off stands = tt
call_by action.Save off stands = absurd (false≢true (sym off))
call_by action.Drain off stands = absurd (false≢true (sym off))
call_by (action.Get block) off stands = absurd (false≢true (sym off))
call_by (action.Arm arm) off stands = absurd (false≢true stands)

-- A step of a lane that does not touch the store.
off_by : (steps : List Step) (index : ℕ) (step : Step) → has_store_step steps ≡ false → index < length steps → step ≡ get_or steps index step → (b : Bool) → is_store_step step ≡ b → b ≡ false
off_by steps index step none within is true stores = absurd (true≢false (sym (list_any_at is_store_step steps index step within (ap is_store_step (sym is) ∙ stores)) ∙ none))
off_by steps index step none within is false stores = refl

pub stays_off : (steps : List Step) (index : ℕ) (step : Step) → has_store_step steps ≡ false → index < length steps → step ≡ get_or steps index step → is_store_step step ≡ false
stays_off steps index step none within is = off_by steps index step none within is (is_store_step step) refl

-- In a lane it does.
pub lane_calls : (step : Step) → is_store_step step ≡ false → IsTrue (is_lane_step step) → IsLockCall (action_of step)
lane_calls step off is = call_by (action_of step) (sym (touches_by step) ∙ off) (stands step is)

-- It does where it is nothing else.
pub else_calls : (does : Action) → does ≢ action.Save → does ≢ action.Drain → ((block : ℕ) → does ≢ action.Get block) → ((arm : Arm) → does ≢ action.Arm arm) → IsLockCall does
else_calls (action.Call op) no_save no_drain no_get no_arm = tt
else_calls (action.Queue op) no_save no_drain no_get no_arm = tt
else_calls action.Save no_save no_drain no_get no_arm = absurd (no_save refl)
else_calls action.Drain no_save no_drain no_get no_arm = absurd (no_drain refl)
else_calls (action.Get block) no_save no_drain no_get no_arm = absurd (no_get block refl)
else_calls (action.Arm arm) no_save no_drain no_get no_arm = absurd (no_arm arm refl)

off_store : (does : Action) → IsLockCall does → touches_store does ≡ false
off_store (action.Call op) is = refl
off_store (action.Queue op) is = refl
off_store action.Save is = absurd is
off_store action.Drain is = absurd is
off_store (action.Get block) is = absurd is
off_store (action.Arm arm) is = absurd is

off_bench : (does : Action) → IsLockCall does → arms_of does ≡ []
off_bench (action.Call op) is = refl
off_bench (action.Queue op) is = refl
off_bench action.Save is = refl
off_bench action.Drain is = refl
off_bench (action.Get block) is = refl
off_bench (action.Arm arm) is = absurd is

pub leaves_store : (step : Step) → IsLockCall (action_of step) → is_store_step step ≡ false
leaves_store step is = touches_by step ∙ off_store (action_of step) is

pub makes_no_arm : (step : Step) → IsLockCall (action_of step) → arms_of (action_of step) ≡ []
makes_no_arm step is = off_bench (action_of step) is

-- ---- what it carries on

module _ {B : Type 0} {b : Ghosts B} (c : Config) where
  pub carries_call : (before after : Seat) (jobs jobs_after : QueueSeat) (step : Step) (told : Told) (store : Store B b) → is_store_step step ≡ false
      → Makes before step told after → Queues jobs step told jobs_after
      → (earlier : List Deed) → Carries c before after jobs jobs_after earlier (with_deed step told earlier) store store
  carries_call before after jobs jobs_after step told store none made queues earlier =
      subst (λ is. Carries c before after jobs jobs_after earlier (deed_if is step told earlier) store store) (sym none)
      (carries_beside c before after jobs jobs_after earlier store
      (λ known is. known_along MayBeAsked reply_after before made.calls after known made.chain is)
      (λ known is. known_along queue.IsQueueCallFor queued.reply_after jobs queues.calls jobs_after known queues.chain is))
