-- What steps carry on of the store and of the application blocks.
use Rattle.std.proofs.Common.{◌≡◌, inl, inr, ⊎_elim, ℕ, ◌+◌, List, ◌∷◌, map, reverse, refl, ap, subst, sym, arith, ◌∙◌}
use Rattle.std.specs.Prelude.{Contains}
use Rattle.std.proofs.lemmas.List.Elements.{Contains-append_left, Contains-append_right}
use mathlib.Core.List.{IsPrefix}
use Rattle.flt_flash.specs.Content.{Content}
use Rattle.flt_flash.specs.Blocks.{BlocksState}
use Rattle.flt_flash.specs.Calls.{ArmsDriver}
use Rattle.flt_flash.specs.declared.arm.Arm.{Arm}
use Rattle.flt_flash.specs.declared.blocks.Blocks.{Ghosts}
use Rattle.flt_config.specs.declared.config.Config.{Config}
use Rattle.flt_store_model.specs.Holding.{Generation, SameApplications}
use Rattle.flt_queue.specs.Queue.{History}
use Rattle.flt_store.specs.declared.store.Store.{Store}
use Rattle.flt_store.specs.Store.{IsRunning, driver_of}
use Rattle.flt_turn.specs.Journal.{ops_of}
use Rattle.flt_turn.specs.Seats.{Seated}
use Rattle.flt_step.specs.declared.step.Step.TheVariants as steps
use Rattle.flt_life_model.specs.Actions.{action_of}
use Rattle.flt_life_model.specs.Applications.{AreHeld, GetsBy, HoldApplications, answers_of, jobs_told, up_to_done}
use Rattle.flt_life_model.specs.Ordered.{Deed}
use Rattle.flt_life_model.specs.declared.answer.StepAnswer.TheVariants as answers
use Rattle.flt_shared.specs.Call.{Seat}
use Rattle.flt_life_model.specs.SoFar.{IsCaused}
use Rattle.flt_life_model.proofs.Causing.{caused_arm, caused_first}
use Rattle.flt_life_model.proofs.HeldBlocks.{held_deed}
use Rattle.flt_fork.specs.Seats.{AreJoined}
use Rattle.flt_lane.specs.Draining.{DrainsOn}
use Rattle.flt_lane.specs.KeptLaws.{KnowsToo, holds_known, living_known}
use Rattle.flt_lane.specs.Living.{Carries, HoldsOn, IsLivingOn, drains_by, drains_of, saves_by}
use Rattle.flt_lane.specs.Runs.{QueueSeat}
use Rattle.flt_life_model.proofs.Keeping.{IsNoSave, kept_other}

-- ---- seats that know as much

-- A seat that joined others knows what each of them knew.
pub knows_joined : {S O : Type 0} (main after seat : Seated S O) (seats : List (Seated S O)) → AreJoined main after seats → Contains (map (λ (s : Seated S O). s.seen) seats) seat.seen → seat.olds ≡ main.olds → KnowsToo seat after
knows_joined {S} {O} main after seat seats joined among olds known =
    ⊎_elim (λ pre. inr (seat.seen, subst (λ l. Contains l seat.seen) (sym joined.olds_are) (Contains-append_right main.olds (map (λ (s : Seated S O). s.seen) seats) seat.seen among), pre))
    (λ old. inr (old.0, subst (λ l. Contains l old.0) (sym joined.olds_are) (Contains-append_left main.olds (map (λ (s : Seated S O). s.seen) seats) old.0 (subst (λ l. Contains l old.0) olds old.1)), old.2))

-- And what the main seat knew before.
pub knows_still : {S O : Type 0} (main after : Seated S O) (seats : List (Seated S O)) → AreJoined main after seats → KnowsToo main after
knows_still {S} {O} main after seats joined known =
    ⊎_elim (λ pre. inl (subst (IsPrefix known) (sym joined.seen_is) pre))
    (λ old. inr (old.0, subst (λ l. Contains l old.0) (sym joined.olds_are) (Contains-append_left main.olds (map (λ (s : Seated S O). s.seen) seats) old.0 old.1), old.2))

module _ {B : Type 0} {b : Ghosts B} (c : Config) where
  -- What is carried on between seats that know less and more.
  pub carries_between : (main before after later : Seat) (jobs jobs_before jobs_after jobs_later : QueueSeat) (earlier deeds : List Deed) (store now : Store B b) → before.start ≡ main.start → KnowsToo main before → KnowsToo after later
      → KnowsToo jobs jobs_before → KnowsToo jobs_after jobs_later → Carries c before after jobs_before jobs_after earlier deeds store now → Carries c main later jobs jobs_later earlier deeds store now
  carries_between main before after later jobs jobs_before jobs_after jobs_later earlier deeds store now start first_knows then_knows job_first job_then carries = record {
    alive = carries.alive;
    living = λ first begins living. living_known c first after later deeds now then_knows (carries.living first (start ∙ begins) (living_known c first main before earlier store first_knows living));
    caused = carries.caused;
    holds = λ alive first holds. holds_known first jobs_after jobs_later _ _ deeds _ job_then (carries.holds alive first (holds_known first jobs jobs_before _ _ earlier _ job_first holds));
  }

  -- An arm.
  pub carries_arm : (seat : Seat) (jobs : QueueSeat) (deeds : List Deed) (store now : Store B b) (arm : Arm) → ArmsDriver arm (driver_of store) (driver_of now) → ((held spare : Generation) → IsRunning c held spare store → IsRunning c held spare now)
      → Carries c seat seat jobs jobs deeds deeds store now
  carries_arm seat jobs deeds store now arm arms runs = record {
    alive = λ alive. record { held = alive.held; spare = alive.spare; running = runs alive.held alive.spare alive.running };
    living = λ first start living. record {
      held = living.held;
      spare = living.spare;
      running = runs living.held living.spare living.running;
      known = living.known;
      is_known = living.is_known;
      least = living.least;
      kept = living.kept;
    };
    caused = λ begun caused. caused_arm c begun (answers_of deeds) store now caused arm arms (runs caused.held_now caused.spare_now caused.running);
    holds = λ alive first holds. subst (HoldsOn first jobs deeds) (sym (ap (λ (d : BlocksState). d.value) arms.rest)) holds;
  }

-- ---- a deed that is no drain

module _ (first : ℕ → Content) (seat : QueueSeat) (earlier : List Deed) (deed : Deed) (values now : ℕ → Content) (same : SameApplications values now) (no_drain : drains_by deed.1 ≡ 0)
    (no_job : jobs_told (deed.1 ∷ answers_of earlier) ≡ jobs_told (answers_of earlier))
    (gets : (past : History) → AreHeld first past (jobs_told (answers_of earlier)) earlier values → GetsBy first past earlier (action_of deed.0) deed.1) where
  pub holds_deed : HoldsOn first seat earlier values → HoldsOn first seat (deed ∷ earlier) now
  holds_deed holds = record {
    known = holds.known;
    is_known = holds.is_known;
    least = (let least = holds.least in omega (arith, least, no_drain));
    held = λ few. held_deed first earlier deed values now same no_job _ (gets _) (holds.held (omega (arith, few, no_drain)));
  }

-- ---- a deed that is no save

-- Leaves the generations that were saved as they are.
pub living_deed : {B : Type 0} {b : Ghosts B} (c : Config) (first : Generation) (seat : Seat) (earlier : List Deed) (deed : Deed) (store now : Store B b) → IsNoSave deed.1 → saves_by deed.1 ≡ 0
    → ((held spare : Generation) → IsRunning c held spare store → IsRunning c held spare now) → IsLivingOn c first seat earlier store → IsLivingOn c first seat (deed ∷ earlier) now
living_deed c first seat earlier deed store now no_save none runs living = record {
  held = living.held;
  spare = living.spare;
  running = runs living.held living.spare living.running;
  known = living.known;
  is_known = living.is_known;
  least = (let least = living.least in omega (arith, least, none));
  kept = λ few. kept_other c first _ (answers_of earlier) living.held living.spare (living.kept (omega (arith, few, none))) deed.1 no_save;
}

-- ---- a drain

module _ {B : Type 0} {b : Ghosts B} (c : Config) (dem : Seat) (jobs after : QueueSeat) (earlier : List Deed) (written failed calls count : ℕ) (store now : Store B b) (drains : DrainsOn c jobs after calls count failed store now)
    (calls_are : calls ≡ drains_by (answers.Drained written failed)) (count_is : count ≡ written + failed) where
  drain_held : (first : ℕ → Content) → HoldsOn first jobs earlier (driver_of store).value → HoldsOn first after ((steps.Drain, answers.Drained written failed) ∷ earlier) (driver_of now).value
  drain_held first holds =
      let done = drains.holds first (drains_of earlier) (jobs_told (answers_of earlier)) earlier holds in
      let jobs_are : jobs_told (answers_of earlier) + count ≡ jobs_told (answers_of earlier) + (written + failed) = omega (arith, count_is) in
      record {
        known = done.known;
        is_known = done.is_known;
        least = (let least = done.least in omega (arith, least, calls_are));
        held = λ few.
            (let held = done.held (omega (arith, few, calls_are)) in
            record {
              counts_jobs = sym jobs_are ∙ held.counts_jobs;
              held = subst (λ n. HoldApplications first (up_to_done n (reverse (ops_of done.known))) (driver_of now).value) jobs_are held.held;
              got = (tt, held.got);
              told = omega arith;
            });
      }

  pub carries_drained : Carries c dem dem jobs after earlier ((steps.Drain, answers.Drained written failed) ∷ earlier) store now
  carries_drained = record {
    alive = λ alive. record { held = alive.held; spare = alive.spare; running = drains.running alive.held alive.spare alive.running };
    living = λ first start living. living_deed c first dem earlier (steps.Drain, answers.Drained written failed) store now tt refl drains.running living;
    caused = λ begun caused. subst (λ n. IsCaused c begun (answers.Drained written n ∷ answers_of earlier) now) (omega arith) (drains.caused begun (answers_of earlier) 0 written 0 (caused_first c store begun (answers_of earlier) caused));
    holds = λ alive first holds. drain_held first holds;
  }
