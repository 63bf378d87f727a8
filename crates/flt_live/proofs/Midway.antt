-- One step more of a life, by what it does.
use Rattle.std.proofs.Common.{◌≡◌, ◌≢◌, ◌<◌, ◌∷◌, ℕ, List, refl, sym, subst, arith}
use Rattle.flt_config.specs.declared.config.Config.{Config}
use Rattle.flt_flash.specs.Blocks.{BlocksState}
use Rattle.flt_flash.specs.Calls.{Follows}
use Rattle.flt_flash.specs.Content.{Content, missing, bytes as holding}
use Rattle.flt_flash.specs.declared.blocks.Blocks.{Ghosts}
use Rattle.flt_flash.proofs.CallsInARow.{more_calls, no_call}
use Rattle.flt_store_model.specs.Holding.{Generation, SameApplications}
use Rattle.flt_store_model.specs.Layout.{applications, application_number}
use Rattle.flt_dcm.specs.Unit.{UnitView}
use Rattle.flt_queue.specs.declared.job.QueueOp.{QueueOp}
use Rattle.flt_queue.specs.Reply.{QueueReply}
use Rattle.flt_queue.specs.declared.queue.JobQueue.{JobQueue}
use Rattle.flt_queue.specs.Queue.{History, answer_q}
use Rattle.flt_queue.specs.Stands as standing
use Rattle.flt_step.specs.declared.step.Step.{Step}
use Rattle.flt_store.specs.declared.store.Store.{Store}
use Rattle.flt_store.specs.Store.{IsRunning, driver_of}
use Rattle.flt_life_model.specs.Actions.{IsQueueCall, action_of, arm_count}
use Rattle.flt_life_model.specs.Answers.{Told}
use Rattle.flt_life_model.specs.Applications.{AreHeld, GetsBy, MayHold, answers_of, jobs_told, up_to_done}
use Rattle.flt_life_model.specs.Chain.{start_from}
use Rattle.flt_life_model.specs.Ordered.{Deed}
use Rattle.flt_life_model.specs.SoFar.{IsCaused}
use Rattle.flt_life_model.specs.declared.action.Action.{Action}
use Rattle.flt_life_model.specs.declared.action.Action.TheVariants as actions
use Rattle.flt_life_model.specs.declared.answer.StepAnswer.TheVariants as answers
use Rattle.flt_life_model.proofs.Causing.{caused_first}
use Rattle.flt_life_model.proofs.HeldBlocks.{apart, held_beside, held_by, held_deed}
use Rattle.flt_life_model.proofs.Keeping.{kept_other}
use Rattle.flt_lives.specs.Living.{IsLiving}
use Rattle.flt_lives.specs.Draining.{HasDrained}
use Rattle.flt_lives.specs.Alone.{IsPlain}
use Rattle.flt_lives.specs.Carried.{IsSave, with_calls}
use Rattle.flt_lives.specs.Steps.{MakesPlainStep}
use Rattle.flt_live.specs.Made.{IsAnswered, IsMidway, IsNoArm, MakesStep, Made, deeds_made, answers_of_made, journal_of, with_deed_by}
use Rattle.flt_lives.specs.Reading.{IsReadOf, ReadsSo}

module _ {B : Type 0} {b : Ghosts B} (c : Config) (step : Step) (told : Told) where
  midway_more : (action : Action) → action_of step ≡ action → (first : Generation) (found : ℕ → Content) (begun : BlocksState) (made : List Made) (unit next_unit : UnitView) (queue next_queue : JobQueue) (store next_store : Store B b)
      (mid : IsMidway c first found begun made unit queue store) (jobs : History)
      → IsLiving c first (with_calls action told (journal_of made)) (answers_of (with_deed_by action step told (deeds_made made))) next_unit next_store → standing.QueueStands c.blocks jobs next_queue
      → IsAnswered (start_from c first.state) (journal_of made) mid.jobs action told jobs → Follows (driver_of store) (driver_of next_store)
      → IsCaused c begun.device.faults (answers_of (with_deed_by action step told (deeds_made made))) next_store
      → AreHeld found jobs (jobs_told (answers_of (with_deed_by action step told (deeds_made made)))) (with_deed_by action step told (deeds_made made)) (driver_of next_store).value
      → IsMidway c first found begun ((step, told) ∷ made) next_unit next_queue next_store
  midway_more action is first found begun made unit next_unit queue next_queue store next_store mid jobs living queued answered follows caused held = record {
    jobs = jobs;
    living = subst (λ (does : Action). IsLiving c first (with_calls does told (journal_of made)) (answers_of (with_deed_by does step told (deeds_made made))) next_unit next_store) (sym is) living;
    queued = queued;
    answered = (mid.jobs, mid.answered, subst (λ (does : Action). IsAnswered (start_from c first.state) (journal_of made) mid.jobs does told jobs) (sym is) answered);
    keeps_driver = more_calls begun (driver_of store) (driver_of next_store) mid.keeps_driver follows;
    caused = subst (λ (does : Action). IsCaused c begun.device.faults (answers_of (with_deed_by does step told (deeds_made made))) next_store) (sym is) caused;
    held = subst (λ (does : Action). AreHeld found jobs (jobs_told (answers_of (with_deed_by does step told (deeds_made made)))) (with_deed_by does step told (deeds_made made)) (driver_of next_store).value) (sym is) held;
  }

-- A save reports no job.
save_tells_none : (told : Told) (earlier : List Told) → IsSave told → jobs_told (told ∷ earlier) ≡ jobs_told earlier
save_tells_none (answers.Saved number) earlier is = refl
save_tells_none (answers.SaveFailed fault) earlier is = refl
save_tells_none (answers.Dem reply) earlier is = absurd is
save_tells_none (answers.Queue reply) earlier is = absurd is
save_tells_none (answers.Drained written failed) earlier is = absurd is
save_tells_none (answers.Bytes found) earlier is = absurd is
save_tells_none answers.NoBlock earlier is = absurd is
save_tells_none answers.BlockFlash earlier is = absurd is
save_tells_none answers.Armed earlier is = absurd is
save_tells_none answers.Dark earlier is = absurd is

-- Nor does a read; it is answered by what the block holds.
module _ (first : ℕ → Content) (past : History) (earlier : List Deed) (values : ℕ → Content) (block : ℕ) (below : block < applications) where
  read_tells_none : (told : Told) → IsReadOf (values (application_number block)) told → jobs_told (told ∷ answers_of earlier) ≡ jobs_told (answers_of earlier)
  read_tells_none (answers.Bytes found) is = refl
  read_tells_none answers.NoBlock is = refl
  read_tells_none answers.BlockFlash is = refl
  read_tells_none (answers.Saved number) is = absurd is
  read_tells_none (answers.SaveFailed fault) is = absurd is
  read_tells_none (answers.Dem reply) is = absurd is
  read_tells_none (answers.Queue reply) is = absurd is
  read_tells_none (answers.Drained written failed) is = absurd is
  read_tells_none answers.Armed is = absurd is
  read_tells_none answers.Dark is = absurd is

  read_gets : (told : Told) → IsReadOf (values (application_number block)) told → AreHeld first past (jobs_told (answers_of earlier)) earlier values → GetsBy first past earlier (actions.Get block) told
  read_gets (answers.Bytes found) is held = held_by first past earlier values block (holding found.items) below is held
  read_gets answers.NoBlock is held = held_by first past earlier values block missing below is held
  read_gets answers.BlockFlash is held = tt
  read_gets (answers.Saved number) is held = absurd is
  read_gets (answers.SaveFailed fault) is held = absurd is
  read_gets (answers.Dem reply) is held = absurd is
  read_gets (answers.Queue reply) is held = absurd is
  read_gets (answers.Drained written failed) is held = absurd is
  read_gets answers.Armed is held = absurd is
  read_gets answers.Dark is held = absurd is

-- What the application blocks hold stays where no deed touched them.
held_still : (first : ℕ → Content) (past : History) (jobs : ℕ) (deeds : List Deed) (values now : ℕ → Content) → SameApplications values now → AreHeld first past jobs deeds values
    → AreHeld first past jobs deeds now
held_still first past jobs deeds values now same held = record {
  counts_jobs = held.counts_jobs;
  held = λ block below. subst (MayHold block (first (application_number block)) (up_to_done jobs past)) (sym (same block below)) (held.held block below);
  got = held.got;
  told = held.told;
}

module _ {B : Type 0} {b : Ghosts B} (c : Config) (step : Step) where
  pub made_plain : (action : Action) (told : Told) → action_of step ≡ action → IsPlain action → IsNoArm action → (unit next_unit : UnitView) (queue : JobQueue) (store next_store : Store B b)
      → MakesPlainStep c action unit next_unit store next_store told → SameApplications (driver_of store).value (driver_of next_store).value → Follows (driver_of store) (driver_of next_store)
      → MakesStep c step told unit next_unit queue queue store next_store
  made_plain (actions.Call op) told is plain no_arm unit next_unit queue store next_store makes same follows = λ first found begun made mid.
      let living = mid.living in
      midway_more c step told (actions.Call op) is first found begun made unit next_unit queue queue store next_store mid mid.jobs
      (makes.living first (journal_of made) (answers_of_made made) living) mid.queued (makes.answered (start_from c first.state) (journal_of made) living.stands, refl) follows
      (makes.caused begun.device.faults (answers_of_made made) mid.caused)
      (held_still found mid.jobs (jobs_told (answers_of_made made)) (deeds_made made) (driver_of store).value (driver_of next_store).value same mid.held)
  made_plain actions.Save told is plain no_arm unit next_unit queue store next_store makes same follows = λ first found begun made mid.
      let living = mid.living in
      let saved : IsSave told = makes.answered (start_from c first.state) (journal_of made) living.stands in
      midway_more c step told actions.Save is first found begun made unit next_unit queue queue store next_store mid mid.jobs
      (makes.living first (journal_of made) (answers_of_made made) living) mid.queued (saved, refl) follows
      (makes.caused begun.device.faults (answers_of_made made) mid.caused)
      (held_deed found (deeds_made made) (step, told) (driver_of store).value (driver_of next_store).value same (save_tells_none told (answers_of_made made) saved) mid.jobs
      (λ held. subst (λ (does : Action). GetsBy found mid.jobs (deeds_made made) does told) (sym is) tt) mid.held)
  made_plain (actions.Queue op) told is plain no_arm unit next_unit queue store next_store makes same follows = absurd plain
  made_plain actions.Drain told is plain no_arm unit next_unit queue store next_store makes same follows = absurd plain
  made_plain (actions.Get block) told is plain no_arm unit next_unit queue store next_store makes same follows = absurd plain
  made_plain (actions.Arm arm) told is plain no_arm unit next_unit queue store next_store makes same follows = absurd no_arm

  pub made_queue : (op : QueueOp) (place : ℕ) (reply : QueueReply) → action_of step ≡ actions.Queue op → IsQueueCall op → (unit : UnitView) (queue next_queue : JobQueue) (store : Store B b)
      → ((jobs : History) → standing.QueueStands c.blocks jobs queue → standing.QueueStands c.blocks (op ∷ jobs) next_queue) → ((jobs : History) → standing.QueueStands c.blocks jobs queue → reply ≡ answer_q jobs op)
      → MakesStep c step (answers.Queue (record { place = place; reply = reply })) unit unit queue next_queue store store
  made_queue op place reply is queue_call unit queue next_queue store stands replied = λ first found begun made mid.
      midway_more c step (answers.Queue (record { place = place; reply = reply })) (actions.Queue op) is first found begun made unit unit queue next_queue store store mid (op ∷ mid.jobs)
      mid.living (stands mid.jobs mid.queued) (replied mid.jobs mid.queued, refl) (no_call (driver_of store)) mid.caused
      (held_beside found (jobs_told (answers_of_made made)) (deeds_made made) (driver_of store).value op mid.jobs (apart op queue_call) mid.held)

  pub made_get : (told : Told) (block : ℕ) → action_of step ≡ actions.Get block → block < applications → (unit : UnitView) (queue : JobQueue) (store next_store : Store B b) → ReadsSo c block store next_store told
      → MakesStep c step told unit unit queue queue store next_store
  made_get told block is below unit queue store next_store reads = λ first found begun made mid.
      midway_more c step told (actions.Get block) is first found begun made unit unit queue queue store next_store mid mid.jobs (reads.living first (journal_of made) (answers_of_made made) unit mid.living) mid.queued (reads.is, refl) reads.keeps_driver
      (reads.caused begun.device.faults (answers_of_made made) mid.caused)
      (held_deed found (deeds_made made) (step, told) (driver_of store).value (driver_of next_store).value (λ number small. reads.values (application_number number))
      (read_tells_none found mid.jobs (deeds_made made) (driver_of store).value block below told reads.found) mid.jobs
      (λ held. subst (λ (does : Action). GetsBy found mid.jobs (deeds_made made) does told) (sym is) (read_gets found mid.jobs (deeds_made made) (driver_of store).value block below told reads.found held)) mid.held)

  pub made_drain : (written failed : ℕ) → action_of step ≡ actions.Drain → (unit : UnitView) (queue next_queue : JobQueue) (store next_store : Store B b)
      → ((held spare : Generation) → IsRunning c held spare store → IsRunning c held spare next_store) → Follows (driver_of store) (driver_of next_store)
      → ((jobs : History) → standing.QueueStands c.blocks jobs queue → HasDrained c jobs written failed next_queue store next_store)
      → MakesStep c step (answers.Drained written failed) unit unit queue next_queue store next_store
  made_drain written failed is unit queue next_queue store next_store running follows drained = λ first found begun made mid.
      let told : Told = answers.Drained written failed in
      let done = drained mid.jobs mid.queued in
      let living = mid.living in
      let held = done.carries.held found (jobs_told (answers_of_made made)) (deeds_made made) mid.held in
      midway_more c step told actions.Drain is first found begun made unit unit queue next_queue store next_store mid done.after
      (record {
        stands = living.stands;
        held = living.held;
        spare = living.spare;
        running = running living.held living.spare living.running;
        kept = kept_other c first (journal_of made) (answers_of_made made) living.held living.spare living.kept told tt;
      })
      done.stands done.drains follows
      (subst (λ n. IsCaused c begun.device.faults (answers.Drained written n ∷ answers_of_made made) next_store) (omega arith)
      (done.carries.caused begun.device.faults (answers_of_made made) 0 written 0 (caused_first c store begun.device.faults (answers_of_made made) mid.caused)))
      (record {
        counts_jobs = held.counts_jobs;
        held = held.held;
        got = (subst (λ (does : Action). GetsBy found done.after (deeds_made made) does told) (sym is) tt, held.got);
        told = omega arith;
      })

-- What leaves the queue and the application blocks alone, by what it is not.
pub plain_else : (action : Action) → ((op : QueueOp) → action ≢ actions.Queue op) → action ≢ actions.Drain → ((block : ℕ) → action ≢ actions.Get block) → IsPlain action
plain_else (actions.Call op) no_job no_drain no_get = tt
plain_else actions.Save no_job no_drain no_get = tt
plain_else (actions.Arm arm) no_job no_drain no_get = tt
plain_else (actions.Queue op) no_job no_drain no_get = absurd (no_job op refl)
plain_else actions.Drain no_job no_drain no_get = absurd (no_drain refl)
plain_else (actions.Get block) no_job no_drain no_get = absurd (no_get block refl)

pub no_arm : (action : Action) → IsNoArm action → arm_count action ≡ 0
no_arm (actions.Call op) none = refl
no_arm (actions.Queue op) none = refl
no_arm actions.Save none = refl
no_arm actions.Drain none = refl
no_arm (actions.Get block) none = refl
no_arm (actions.Arm arm) none = absurd none
