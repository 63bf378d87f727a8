use Rattle.std.proofs.Common.{◌≡◌, ℕ, ◌≤◌, List, [], ◌∷◌, length, refl, subst, arith}
use Rattle.std.specs.Prelude.{IsTrue}
use Rattle.std.proofs.lemmas.Bool.{leb-true}
use Rattle.flt_config.specs.declared.config.Config.{Config}
use Rattle.flt_flash.specs.Calls.{SameValues}
use Rattle.flt_flash.specs.Content.{Content}
use Rattle.flt_flash.specs.declared.blocks.Blocks.{Ghosts}
use Rattle.flt_store_model.specs.Holding.{Generation, is_application}
use Rattle.flt_store_model.specs.Layout.{application_number}
use Rattle.flt_queue.specs.Queue.{History}
use Rattle.flt_step.specs.declared.step.Step.TheVariants as steps
use Rattle.flt_store.specs.declared.store.Store.{Store}
use Rattle.flt_store.specs.Store.{IsAlive, IsRunning, driver_of}
use Rattle.flt_store.proofs.Applying.{below_limit}
use Rattle.flt_life_model.specs.Answers.{Told}
use Rattle.flt_life_model.specs.Applications.{AreHeld, GetsBy, answers_of, jobs_told}
use Rattle.flt_life_model.specs.Ordered.{Deed}
use Rattle.flt_life_model.specs.declared.action.Action.TheVariants as action
use Rattle.flt_life_model.specs.declared.answer.StepAnswer.TheVariants as answers
use Rattle.flt_shared.specs.Call.{Seat}
use Rattle.flt_life_model.specs.SoFar.{IsCaused}
use Rattle.flt_life_model.proofs.Causing.{caused_read, caused_unread}
use Rattle.flt_lane.specs.Living.{Carries, drains_by, saves_by}
use Rattle.flt_lane.specs.Runs.{QueueSeat}
use Rattle.flt_lane.proofs.Answering.{keeps, keeps_with, takes_deed}
use Rattle.flt_life_model.proofs.HeldBlocks.{gets_bytes, gets_none, held_by}
use Rattle.flt_lane.proofs.Carrying.{holds_deed, living_deed}
use Rattle.flt_life_model.proofs.Keeping.{IsNoSave}
use Rattle.flt_lane.proofs.Leaving.{leaves_by_calls}
use Rattle.flt_lane.proofs.Stepping.{none_made, none_queued}
use Rattle.flt_lane.proofs.step.get.Goals.{In-Ok-true}
use Rattle.flt_lane.proofs.step.get.Goals as goal

-- What a read carries on, by its answer.
read_carries : {B : Type 0} {b : Ghosts B} (c : Config) (seat : Seat) (jobs : QueueSeat) (earlier : List Deed) (block : ℕ) (told : Told) (store now : Store B b) → SameValues (driver_of store) (driver_of now)
    → ((held spare : Generation) → IsRunning c held spare store → IsRunning c held spare now) → IsNoSave told → saves_by told ≡ 0 → drains_by told ≡ 0 → jobs_told (told ∷ answers_of earlier) ≡ jobs_told (answers_of earlier)
    → ((begun : ℕ) → IsCaused c begun (answers_of earlier) store → IsCaused c begun (told ∷ answers_of earlier) now)
    → (IsAlive c store → (first : ℕ → Content) (past : History) → AreHeld first past (jobs_told (answers_of earlier)) earlier (driver_of store).value → GetsBy first past earlier (action.Get block) told)
    → Carries c seat seat jobs jobs earlier ((steps.Get block, told) ∷ earlier) store now
read_carries c seat jobs earlier block told store now same runs no_save no_saves no_drain no_job causes gets = record {
  alive = λ alive. record { held = alive.held; spare = alive.spare; running = runs alive.held alive.spare alive.running };
  living = λ first start living. living_deed c first seat earlier (steps.Get block, told) store now no_save no_saves runs living;
  caused = causes;
  holds = λ alive first holds. holds_deed first jobs earlier (steps.Get block, told) (driver_of store).value (driver_of now).value (λ number below. same (application_number number)) no_drain no_job (gets alive first) holds;
}

-- An application block of a store that runs is no longer than one may be.
short : (g : _) (c : In-Ok-true g) → length c.get_block.new.out.items ≤ 32
short g c =
    let alive = c.requires.alive.2 in
    let content = (driver_of c.args.store.now).value (application_number c.args.block) in
    let got = (c.in-Ok-true.ensures.running c.requires.alive.0 alive.held alive.spare alive.running).got in
    let is = subst (λ d. IsTrue (is_application d)) (gets_bytes content c.in-Ok-true.field-0 _ got c.in-Ok-true.field-0-test) (alive.running.sound.holds.applications c.args.block (below_limit c.requires.alive)) in
    omega (arith, leb-true (length c.get_block.new.out.items) 32 is)

pub keep-requires-clause-responses : goal.keep-requires-clause-responses
keep-requires-clause-responses g c = let room = c.requires.room.responses in omega (arith, room, short g (goal.at.keep-requires-clause-responses g c).In-Ok-true)

pub returns-in-Ok-true : goal.returns-in-Ok-true
returns-in-Ok-true g c = record {
  takes = λ config seat jobs.
      let told : Told = answers.Bytes c.get_block.new.out in
      let kept = c.keep.ensures in
      takes_deed config seat seat jobs jobs (steps.Get c.args.block) told c.args.replies.now c.keep.new.self c.args.store.now c.get_block.new.self refl
      (keeps_with c.args.replies.now c.keep.new.self (steps.Get c.args.block) (answers.Bytes c.get_block.new.out) [] [] refl kept.told kept.answers kept.room kept.responses kept.bytes (short g (goal.at.returns-in-Ok-true g c).In-Ok-true))
      (none_made seat (steps.Get c.args.block) told (tt, refl)) (none_queued jobs (steps.Get c.args.block) told refl)
      (λ earlier. read_carries config seat jobs earlier c.args.block told c.args.store.now c.get_block.new.self c.get_block.ensures.values (λ held spare running. (c.get_block.ensures.running config held spare running).running) tt refl refl refl
      (λ begun caused. caused_read config begun (answers_of earlier) c.args.store.now c.get_block.new.self caused told tt c.get_block.ensures.calls (c.get_block.ensures.running config caused.held_now caused.spare_now caused.running).running)
      (λ alive first past held. held_by first past earlier (driver_of c.args.store.now).value c.args.block _ (below_limit c.requires.alive)
      (gets_bytes _ c.in-Ok-true.field-0 _ (c.in-Ok-true.ensures.running config alive.held alive.spare alive.running).got c.in-Ok-true.field-0-test) held))
      (leaves_by_calls c.args.store.now c.get_block.new.self c.get_block.ensures.calls);
}

pub returns-in-Ok-false : goal.returns-in-Ok-false
returns-in-Ok-false g c = record {
  takes = λ config seat jobs.
      let told : Told = answers.NoBlock in
      let kept = c.keep-in-Ok-false.ensures in
      takes_deed config seat seat jobs jobs (steps.Get c.args.block) told c.args.replies.now c.keep-in-Ok-false.new.self c.args.store.now c.get_block.new.self refl
      (keeps c.args.replies.now c.keep-in-Ok-false.new.self (steps.Get c.args.block) answers.NoBlock kept.told kept.answers kept.room kept.responses kept.bytes refl)
      (none_made seat (steps.Get c.args.block) told (tt, refl)) (none_queued jobs (steps.Get c.args.block) told refl)
      (λ earlier. read_carries config seat jobs earlier c.args.block told c.args.store.now c.get_block.new.self c.get_block.ensures.values (λ held spare running. (c.get_block.ensures.running config held spare running).running) tt refl refl refl
      (λ begun caused. caused_read config begun (answers_of earlier) c.args.store.now c.get_block.new.self caused told tt c.get_block.ensures.calls (c.get_block.ensures.running config caused.held_now caused.spare_now caused.running).running)
      (λ alive first past held. held_by first past earlier (driver_of c.args.store.now).value c.args.block _ (below_limit c.requires.alive)
      (gets_none _ c.in-Ok-false.field-0 _ (c.in-Ok-false.ensures.running config alive.held alive.spare alive.running).got c.in-Ok-false.field-0-test) held))
      (leaves_by_calls c.args.store.now c.get_block.new.self c.get_block.ensures.calls);
}

pub returns-in-Err : goal.returns-in-Err
returns-in-Err g c = record {
  takes = λ config seat jobs.
      let told : Told = answers.BlockFlash in
      let kept = c.keep-in-Err.ensures in
      takes_deed config seat seat jobs jobs (steps.Get c.args.block) told c.args.replies.now c.keep-in-Err.new.self c.args.store.now c.get_block.new.self refl
      (keeps c.args.replies.now c.keep-in-Err.new.self (steps.Get c.args.block) answers.BlockFlash kept.told kept.answers kept.room kept.responses kept.bytes refl)
      (none_made seat (steps.Get c.args.block) told (tt, refl)) (none_queued jobs (steps.Get c.args.block) told refl)
      (λ earlier. read_carries config seat jobs earlier c.args.block told c.args.store.now c.get_block.new.self c.get_block.ensures.values (λ held spare running. (c.get_block.ensures.running config held spare running).running) tt refl refl refl
      (λ begun caused. caused_unread config begun (answers_of earlier) c.args.store.now c.get_block.new.self caused c.get_block.ensures.calls
      (c.in-Err.ensures.running config caused.held_now caused.spare_now caused.running).flash (c.get_block.ensures.running config caused.held_now caused.spare_now caused.running).running)
      (λ alive first past held. tt))
      (leaves_by_calls c.args.store.now c.get_block.new.self c.get_block.ensures.calls);
}
