-- The answer to a step is kept, and what follows for the step.
use Rattle.std.proofs.Common.{◌≡◌, ℕ, ◌≤◌, ◌+◌, true, List, [], ◌∷◌, ◌++◌, ap, arith, refl, subst, sym, ◌∙◌}
use Rattle.std.specs.Prelude.{vec_len}
use Rattle.std.specs.Vec.{vec_capacity}
use Rattle.flt_flash.specs.declared.arm.Arm.{Arm}
use Rattle.flt_flash.specs.declared.blocks.Blocks.{Ghosts}
use Rattle.flt_config.specs.declared.config.Config.{Config}
use Rattle.flt_step.specs.Step.{is_lane_step}
use Rattle.flt_step.specs.declared.step.Step.{Step}
use Rattle.flt_shared.specs.Call.{Seat}
use Rattle.flt_store.specs.declared.store.Store.{Store}
use Rattle.flt_store.specs.Store.{driver_of}
use Rattle.flt_life_model.specs.Actions.{action_of, response_size}
use Rattle.flt_life_model.specs.Answers.{GivenAnswer, Told, byte_room, response_length, told_size, told_with}
use Rattle.flt_life_model.specs.declared.replies.LaneReplies.{LaneReplies}
use Rattle.flt_life_model.specs.Going.{WereGiven}
use Rattle.flt_life_model.specs.Ordered.{Deed, with_deed}
use Rattle.flt_life_model.specs.Room.{told_in}
use Rattle.flt_life_model.proofs.Giving.{none_given}
use Rattle.flt_life_model.proofs.ByAction.{no_arms}
use Rattle.flt_life_model.proofs.Riding.{goes_nowhere}
use Rattle.flt_life_model.proofs.Sizes.{sizes-cons}
use Rattle.flt_lane.specs.Living.{Carries}
use Rattle.flt_lane.specs.Runs.{Makes, Queues, QueueSeat}
use Rattle.flt_lane.specs.Stepped.{IsLockCall, KeepsAnswer, MakesStep, TakesStep}
use Rattle.flt_lane.specs.Stored.{LeavesStore}
use Rattle.flt_lane.proofs.OffStore.{carries_call, leaves_store, makes_no_arm}

-- The response is in a buffer that is read as these bytes.
pub keeps_with : (before after : LaneReplies) (step : Step) (answer : GivenAnswer) (response bytes : List ℕ) → bytes ≡ response → told_in after ≡ told_in before ++ told_with bytes answer ∷ [] → vec_len after.answers ≡ vec_len before.answers + 1
    → vec_capacity after.answers ≡ vec_capacity before.answers → vec_len after.responses ≡ vec_len before.responses + response_length answer bytes → byte_room before.responses ≤ byte_room after.responses
    → told_size (told_with response answer) ≤ response_size (action_of step) → KeepsAnswer before after step (told_with response answer)
keeps_with before after step answer response bytes same told len capacity responses bytes_room size =
    let responses_are : vec_len after.responses ≡ vec_len before.responses + told_size (told_with response answer) = responses ∙ ap (λ b. vec_len before.responses + response_length answer b) same in
    record {
      told = told ∙ ap (λ b. told_in before ++ told_with b answer ∷ []) same;
      len = len;
      room = λ later room.
          (let sum = sizes-cons step later in
          let answers = room.answers in
          let fits = room.responses in
          record { answers = omega (arith, answers, len, capacity); responses = omega (arith, sum, fits, size, responses_are, bytes_room) });
    }

-- There is none.
pub keeps : (before after : LaneReplies) (step : Step) (answer : GivenAnswer) → told_in after ≡ told_in before ++ told_with [] answer ∷ [] → vec_len after.answers ≡ vec_len before.answers + 1
    → vec_capacity after.answers ≡ vec_capacity before.answers → vec_len after.responses ≡ vec_len before.responses + response_length answer [] → byte_room before.responses ≤ byte_room after.responses
    → told_size (told_with [] answer) ≡ 0 → KeepsAnswer before after step (told_with [] answer)
keeps before after step answer told len capacity responses bytes none = keeps_with before after step answer [] [] refl told len capacity responses bytes (omega (arith, none))

module _ {B : Type 0} {b : Ghosts B} (c : Config) where
  -- A step that calls, and leaves the store alone.
  pub takes_call : (seat after : Seat) (jobs jobs_after : QueueSeat) (step : Step) (replies kept : LaneReplies) (store : Store B b) → IsLockCall (action_of step) → MakesStep seat after jobs jobs_after step replies kept
      → TakesStep c seat after jobs jobs_after step replies kept store store
  takes_call seat after jobs jobs_after step replies kept store call made =
      let arms = (driver_of store).device.bench.arms in
      record {
        made = made;
        carries = carries_call c seat after jobs jobs_after step made.answer store (leaves_store step call) made.dem made.queue;
        keeps_driver = goes_nowhere (driver_of store);
        arms_made = subst (λ (l : List Arm). WereGiven l arms arms) (sym (makes_no_arm step call)) (none_given arms);
        armed = omega arith;
      }

  -- A step that may be in a lane, and has calls of the driver after it.
  pub takes_deed : (seat after : Seat) (jobs jobs_after : QueueSeat) (step : Step) (told : Told) (replies kept : LaneReplies) (store now : Store B b) → is_lane_step step ≡ true → KeepsAnswer replies kept step told → Makes seat step told after
      → Queues jobs step told jobs_after → ((earlier : List Deed) → Carries c seat after jobs jobs_after earlier (with_deed step told earlier) store now) → LeavesStore store now
      → TakesStep c seat after jobs jobs_after step replies kept store now
  takes_deed seat after jobs jobs_after step told replies kept store now is keeps dem queue carries leaves = record {
    made = record { answer = told; keeps = keeps; dem = dem; queue = queue };
    carries = carries;
    keeps_driver = leaves.keeps_driver;
    arms_made = subst (λ (l : List Arm). WereGiven l (driver_of store).device.bench.arms (driver_of now).device.bench.arms) (sym (no_arms step is)) leaves.arms_made;
    armed = let armed = leaves.armed in omega (arith, armed);
  }
