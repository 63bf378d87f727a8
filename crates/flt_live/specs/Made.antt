-- The steps of a life that were made one by one, each with its answer; all lists begin with the newest.
use Rattle.std.specs.Prelude.{◌≡◌, ℕ, List, [], ◌∷◌}
use Rattle.flt_config.specs.declared.config.Config.{Config}
use Rattle.flt_model.specs.Start.{Start}
use Rattle.flt_flash.specs.Blocks.{BlocksState}
use Rattle.flt_flash.specs.Calls.{Follows}
use Rattle.flt_flash.specs.Content.{Content}
use Rattle.flt_flash.specs.declared.blocks.Blocks.{Ghosts}
use Rattle.flt_store_model.specs.Holding.{Generation}
use Rattle.flt_dcm.specs.Unit.{UnitView}
use Rattle.flt_queue.specs.declared.job.QueueOp.{QueueOp}
use Rattle.flt_queue.specs.declared.queue.JobQueue.{JobQueue}
use Rattle.flt_queue.specs.Queue.{History, answer_q}
use Rattle.flt_queue.specs.Stands as standing
use Rattle.flt_step.specs.declared.step.Step.{Step}
use Rattle.flt_store.specs.declared.store.Store.{Store}
use Rattle.flt_store.specs.Store.{driver_of}
use Rattle.flt_life_model.specs.Actions.{action_of}
use Rattle.flt_life_model.specs.Answers.{Told}
use Rattle.flt_life_model.specs.Applications.{AreHeld, answers_of, jobs_told}
use Rattle.flt_life_model.specs.Chain.{start_from}
use Rattle.flt_life_model.specs.Journal.{Journal}
use Rattle.flt_life_model.specs.Ordered.{Deed}
use Rattle.flt_life_model.specs.Played.{IsGot}
use Rattle.flt_life_model.specs.SoFar.{IsCaused}
use Rattle.flt_life_model.specs.declared.action.Action.{Action}
use Rattle.flt_life_model.specs.declared.action.Action.TheVariants as actions
use Rattle.flt_life_model.specs.declared.answer.StepAnswer.TheVariants as answers
use Rattle.flt_lives.specs.Carried.{IsReply, IsSave, with_calls}
use Rattle.flt_lives.specs.Living.{IsLiving}
use Rattle.flt_lives.specs.Draining.{Drains}

abbrev pub Made : Type 0
Made = Step × Told

-- The step arms nothing.
abbrev pub IsNoArm : Action → Type 0
IsNoArm (actions.Arm arm) = ⊥
IsNoArm _ = Unit {0}

-- The journal of the steps so far.
abbrev pub journal_of : List Made → Journal
journal_of [] = []
journal_of (made ∷ earlier) = with_calls (action_of made.0) made.1 (journal_of earlier)

-- The deeds of these steps: those that touch the store, each with its answer.
abbrev pub with_deed_by : Action → Step → Told → List Deed → List Deed
with_deed_by actions.Save step told earlier = (step, told) ∷ earlier
with_deed_by actions.Drain step told earlier = (step, told) ∷ earlier
with_deed_by (actions.Get block) step told earlier = (step, told) ∷ earlier
with_deed_by _ step told earlier = earlier

abbrev pub deeds_made : List Made → List Deed
deeds_made [] = []
deeds_made (made ∷ earlier) = with_deed_by (action_of made.0) made.0 made.1 (deeds_made earlier)

-- Their answers.
abbrev pub answers_of_made : List Made → List Told
answers_of_made made = answers_of (deeds_made made)

-- The answer is the queue's to a call after these.
abbrev pub IsQueueReply : History → QueueOp → Told → Type 0
IsQueueReply before op (answers.Queue told) = told.reply ≡ answer_q before op
IsQueueReply before op _ = ⊥

-- The answer says how many jobs a drain wrote, and how many it could not write.
abbrev pub IsDrain : History → Told → History → Type 0
IsDrain before (answers.Drained written failed) after = Drains before written failed after
IsDrain before _ after = ⊥

-- The answer to a step after these calls of both machines, and the calls of the queue after it.
abbrev pub IsAnswered : Start → Journal → History → Action → Told → History → Type 0
IsAnswered start journal before (actions.Call op) told after = IsReply start journal op told × (after ≡ before)
IsAnswered start journal before (actions.Queue op) told after = IsQueueReply before op told × (after ≡ op ∷ before)
IsAnswered start journal before actions.Save told after = IsSave told × (after ≡ before)
IsAnswered start journal before actions.Drain told after = IsDrain before told after
IsAnswered start journal before (actions.Get block) told after = IsGot told × (after ≡ before)
IsAnswered start journal before (actions.Arm arm) told after = ⊥

-- Each step so far was answered so, and these are the calls of the queue.
abbrev pub AreAnswered : Start → List Made → History → Type 0
AreAnswered start [] jobs = jobs ≡ []
AreAnswered start (made ∷ earlier) jobs =
    (before : History) × AreAnswered start earlier before × IsAnswered start (journal_of earlier) before (action_of made.0) made.1 jobs

module _ {B : Type 0} {b : Ghosts B} where
  -- A life that began with this generation has made these steps: its machine stands for their calls, and so does its queue; the store holds
  -- the generation that was acknowledged last, or one of a later save; each step that failed has its cause since the life began; each
  -- application block holds what it did at the power-up, or what the drains may have left there, and each read was answered by the drains
  -- before it.
  pub record IsMidway (c : Config) (first : Generation) (found : ℕ → Content) (begun : BlocksState) (made : List Made) (unit : UnitView) (queue : JobQueue) (store : Store B b) : Type 0 where
    -- The calls of the queue.
    pub jobs : History
    -- The machine is in the state that the calls lead to, and the store holds what was acknowledged last or later.
    pub living : IsLiving c first (journal_of made) (answers_of_made made) unit store
    -- The queue is in the state that its calls lead to.
    pub queued : standing.QueueStands c.blocks jobs queue
    -- Each step was answered as is due after those before it.
    pub answered : AreAnswered (start_from c first.state) made jobs
    -- The driver was called since the life began, and nothing else was done with it.
    pub keeps_driver : Follows begun (driver_of store)
    -- Each step that failed has its cause.
    pub caused : IsCaused c begun.device.faults (answers_of_made made) store
    -- Each application block holds what the drains may have left, and each read was answered by it.
    pub held : AreHeld found jobs (jobs_told (answers_of_made made)) (deeds_made made) (driver_of store).value

  -- One step more was made, with this answer.
  abbrev pub MakesStep : Config → Step → Told → (unit next_unit : UnitView) → (queue next_queue : JobQueue) → (store next_store : Store B b) → Type 0
  MakesStep c step told unit next_unit queue next_queue store next_store = (first : Generation) (found : ℕ → Content) (begun : BlocksState) (made : List Made)
      → IsMidway c first found begun made unit queue store → IsMidway c first found begun ((step, told) ∷ made) next_unit next_queue next_store
