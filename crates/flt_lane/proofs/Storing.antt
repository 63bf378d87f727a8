-- A lane that touches the store, after some of its steps.
use Rattle.std.proofs.Common.{◌≡◌, ℕ, ◌<◌, ◌≤◌, ◌+◌, List, [], ◌∷◌, ◌++◌, length, take, get_or, reverse, ap, subst, sym, arith, ◌∙◌}
use Rattle.std.specs.Prelude.{IsTrue}
use Rattle.std.proofs.lemmas.List.{append-nil, append_assoc, append_cancel_left, take_more}
use Rattle.flt_flash.specs.declared.arm.Arm.{Arm}
use Rattle.flt_flash.specs.declared.blocks.Blocks.{Ghosts}
use Rattle.flt_config.specs.declared.config.Config.{Config}
use Rattle.flt_step.specs.Step.{is_lane_step}
use Rattle.flt_step.specs.declared.step.Step.{Step}
use Rattle.flt_shared.specs.Call.{MayBeAsked, reply_after}
use Rattle.flt_store.specs.declared.store.Store.{Store}
use Rattle.flt_store.specs.Store.{driver_of}
use Rattle.flt_life_model.specs.Actions.{action_of, arm_count, arms_of}
use Rattle.flt_life_model.specs.Answers.{Told}
use Rattle.flt_life_model.specs.Ordered.{Deed, lane_deeds, with_deed}
use Rattle.flt_life_model.specs.Played.{StepMakes}
use Rattle.flt_life_model.specs.Room.{told_in}
use Rattle.flt_life_model.specs.Going.{GoesOn, WereGiven}
use Rattle.flt_life_model.proofs.ByAction.{no_arm, no_arms}
use Rattle.flt_lane.specs.Views.{KnownLocks, LaneWork}
use Rattle.flt_lane.specs.Living.{Carries}
use Rattle.flt_lane.specs.Runs.{calls_by}
use Rattle.flt_lane.specs.Stored.{HasRunStore, LeavesStore}
use Rattle.flt_lane.specs.Work.{HasRun}
use Rattle.flt_lane.specs.KeptLaws.{carries_beside, carries_further}
use Rattle.flt_lane.proofs.Leaving.{leaves_nothing, leaves_further}
use Rattle.flt_lane.proofs.LaneDeeds.{lane_deeds_more, newest_deed, told_count}
use Rattle.flt_fork.proofs.PartWays.{part_start}
use Rattle.flt_lane.proofs.Running.{IsPartway}

-- ---- what a step of a lane leaves of the bench

module _ {B : Type 0} {b : Ghosts B} where
  pub leaves_step : (step : Step) (store now : Store B b) → IsTrue (is_lane_step step) → GoesOn (driver_of store) (driver_of now)
      → WereGiven (arms_of (action_of step)) (driver_of store).device.bench.arms (driver_of now).device.bench.arms
      → (driver_of now).device.bench.armed ≤ (driver_of store).device.bench.armed + arm_count (action_of step) → LeavesStore store now
  leaves_step step store now is goes given armed = record {
    keeps_driver = goes;
    arms_made = subst (λ (l : List Arm). WereGiven l (driver_of store).device.bench.arms (driver_of now).device.bench.arms) (no_arms step is) given;
    armed = let none = no_arm step is in omega (arith, armed, none);
  }

-- ---- the lane

pub record IsStoring {B : Type 0} {b : Ghosts B} (c : Config) (locks : KnownLocks) (before now : LaneWork) (index : ℕ) (store current : Store B b) : Type 0 where
  pub part : IsPartway locks before now index
  pub carries : (earlier : List Deed) → Carries c before.seats.dem now.seats.dem before.seats.queue now.seats.queue earlier (reverse (lane_deeds (take index before.steps.now) part.told) ++ earlier) store current
  pub leaves : LeavesStore store current

module _ {B : Type 0} {b : Ghosts B} (c : Config) (locks : KnownLocks) where
  pub storing_begins : (lane : LaneWork) (store : Store B b) → IsPartway locks lane lane 0 → IsStoring c locks lane lane 0 store store
  storing_begins lane store part =
      let none : part.told ≡ [] = append_cancel_left (told_in lane.replies) part.told [] (sym part.answers ∙ sym (append-nil (told_in lane.replies))) in
      record {
        part = part;
        carries = λ earlier. subst (λ l. Carries c lane.seats.dem lane.seats.dem lane.seats.queue lane.seats.queue earlier (reverse (lane_deeds [] l) ++ earlier) store store) (sym none)
            (carries_beside c lane.seats.dem lane.seats.dem lane.seats.queue lane.seats.queue earlier store (λ known is. is) (λ known is. is));
        leaves = leaves_nothing store;
      }

  pub storing_more : (before now after : LaneWork) (index : ℕ) (step : Step) (told : Told) (store current later : Store B b) → index < length before.steps.now → step ≡ get_or before.steps.now index step
      → (on : IsStoring c locks before now index store current) → (more : IsPartway locks before after (index + 1)) → told_in after.replies ≡ told_in now.replies ++ told ∷ []
      → ((earlier : List Deed) → Carries c now.seats.dem after.seats.dem now.seats.queue after.seats.queue earlier (with_deed step told earlier) current later) → LeavesStore current later → IsStoring c locks before after (index + 1) store later
  storing_more before now after index step told store current later within is on more answers carries leaves =
      let all = before.steps.now in
      let first = take index all in
      let taken : take (index + 1) all ≡ first ++ step ∷ [] = take_more all index step within ∙ ap (λ s. first ++ s ∷ []) (sym is) in
      let told_is : more.told ≡ on.part.told ++ told ∷ [] =
      append_cancel_left (told_in before.replies) more.told (on.part.told ++ told ∷ [])
      (sym more.answers ∙ answers ∙ ap (λ l. l ++ told ∷ []) on.part.answers ∙ append_assoc (told_in before.replies) on.part.told (told ∷ [])) in
      let size = told_count StepMakes first on.part.told on.part.dem.calls on.part.dem.made in
      let start = part_start MayBeAsked reply_after StepMakes calls_by before.seats.dem now.seats.dem first on.part.told on.part.dem in
      let deeds : lane_deeds (take (index + 1) all) more.told ≡ lane_deeds first on.part.told ++ with_deed step told [] = (λ i. lane_deeds (taken i) (told_is i)) ∙ lane_deeds_more first on.part.told step told size in
      record {
        part = more;
        carries = λ earlier. subst (λ l. Carries c before.seats.dem after.seats.dem before.seats.queue after.seats.queue earlier l store later)
            (sym (ap (λ l. reverse l ++ earlier) deeds ∙ newest_deed step told (lane_deeds first on.part.told) earlier))
            (carries_further c before.seats.dem now.seats.dem after.seats.dem before.seats.queue now.seats.queue after.seats.queue earlier (reverse (lane_deeds first on.part.told) ++ earlier) (with_deed step told (reverse (lane_deeds first on.part.told) ++ earlier))
            store current later start (on.carries earlier) (carries (reverse (lane_deeds first on.part.told) ++ earlier)));
        leaves = leaves_further store current later on.leaves leaves;
      }

  pub has_stored : (before now : LaneWork) (index : ℕ) (store current : Store B b) → (on : IsStoring c locks before now index store current) → take index before.steps.now ≡ before.steps.now → (ran : HasRun before now)
      → HasRunStore c before now store current
  has_stored before now index store current on whole ran =
      let told_is : ran.told ≡ on.part.told = append_cancel_left (told_in before.replies) ran.told on.part.told (sym ran.answers ∙ on.part.answers) in
      record {
        ran = ran;
        carries = λ earlier. subst (λ l. Carries c before.seats.dem now.seats.dem before.seats.queue now.seats.queue earlier (reverse l ++ earlier) store current) (λ i. lane_deeds (whole i) (sym told_is i)) (on.carries earlier);
        leaves = on.leaves;
      }
