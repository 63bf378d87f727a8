-- Worked examples of what is not so of a life: each would hold if a rule of its definition were left out.
use Rattle.std.specs.Prelude.{◌≡◌, ℕ, ◌<◌, [], ◌∷◌, Some, None, true, false}
use Rattle.std.proofs.Common.{inl}
use Rattle.flt_flash.specs.Content.{Content, bytes as holding}
use Rattle.flt_flash.specs.declared.arm.Arm.{Arm}
use Rattle.flt_flash.specs.declared.arm.ArmMade.{ArmMade}
use Rattle.flt_config.specs.declared.config.Config.{Config}
use Rattle.flt_config.specs.declared.persist.Persist.{Persist}
use Rattle.flt_store_model.specs.Holding.{Generation}
use Rattle.flt_model.specs.Durable.{saved_after}
use Rattle.flt_model.specs.declared.call.Op.TheVariants as ops
use Rattle.flt_queue.specs.declared.job.Job.{Job}
use Rattle.flt_queue.specs.declared.job.QueueOp.TheVariants as queue
use Rattle.flt_queue.specs.declared.job.QueueReplyOf.TheVariants as replies
use Rattle.flt_store.specs.declared.fault.SaveFault.TheVariants.{Flash}
use Rattle.flt_step.specs.declared.step.Step.TheVariants as steps
use Rattle.flt_life_model.specs.declared.action.Action.TheVariants as actions
use Rattle.flt_life_model.specs.declared.answer.StepAnswer.TheVariants as answers
use Rattle.flt_life_model.specs.declared.life.Boot.TheVariants.{Dark, Started}
use Rattle.flt_life_model.specs.Applications.{MayHold, GetsBy}
use Rattle.flt_life_model.specs.Chain.{LifeView, IsLifeBegunBy, start_count, start_from}
use Rattle.flt_life_model.specs.Examples.{journal}
use Rattle.flt_life_model.specs.Laws.{IsLastOrLater, last_acknowledged}
use Rattle.flt_life_model.specs.Draining.{IsLastTake, take_at}
use Rattle.flt_life_model.specs.Lives.{AreEnded, AreGiven, arms_given}
use Rattle.flt_life_model.specs.Moment.{Moment}
use Rattle.flt_life_model.specs.Played.{dark_answer}
use Rattle.flt_life_model.specs.Saving.{AreRising}

-- Numbers that are acknowledged do not leap: after 7 comes 8, and after a save that failed 9 at most.
pub record NumbersDoNotLeap : Type 0 where
  pub next : AreRising 7 (answers.Saved 8 ∷ [])
  pub same : ¬ AreRising 7 (answers.Saved 7 ∷ [])
  pub leap : ¬ AreRising 7 (answers.Saved 9 ∷ [])
  pub failed : AreRising 7 (answers.Saved 9 ∷ answers.SaveFailed Flash ∷ [])
  pub failed_leap : ¬ AreRising 7 (answers.Saved 10 ∷ answers.SaveFailed Flash ∷ [])

-- A dark life leaves each application block as it was: here block 0, whose number at the driver is 512.
abbrev pub DarkLifeKeepsBlocks : Type 0
DarkLifeKeepsBlocks = (c : Config) (boot next : Moment) (ended : ℕ) (life : LifeView) → IsLifeBegunBy c boot next ended life Dark → next.value 512 ≡ boot.value 512

-- A dark life.
abbrev pub dark_life : LifeView
dark_life = record { parts = []; boot = Dark; journal = []; queue = []; own = []; lanes = [] }

-- A run of two lives does not stop after the first unless that is refused.
pub record RunsDoNotStop : Type 0 where
  pub both : AreEnded 2 (dark_life ∷ dark_life ∷ [])
  pub one : ¬ AreEnded 2 (dark_life ∷ [])
  pub none : ¬ AreEnded 2 []
  pub more : ¬ AreEnded 2 (dark_life ∷ dark_life ∷ dark_life ∷ [])

-- A job of this block.
abbrev pub job_for : ℕ → Job → Job
job_for block job = record { block = block; bytes = job.bytes }

-- Block 0 does not hold the bytes of a job of block 1.
abbrev pub OtherJobsDoNotCount : Type 0
OtherJobsDoNotCount = (before held : Content) (job : Job) → MayHold 0 before (queue.Done 1 true ∷ queue.Take ∷ queue.Post false (job_for 1 job) ∷ []) held → held ≡ before

-- A read before every drain answers what the block held at first, though a later drain of the life wrote it.
abbrev pub ReadsDoNotLookAhead : Type 0
ReadsDoNotLookAhead = (first : ℕ → Content) (job : Job) →
    GetsBy first (queue.Done 0 true ∷ queue.Take ∷ queue.Post false (job_for 0 job) ∷ []) [] (actions.Get 0) (answers.Bytes job.bytes)
    → holding job.bytes.items ≡ first 512

-- A drain does not stop before the 32nd job unless a take finds none; after the 32nd it takes no more.
pub record DrainsDoNotStopEarly : Type 0 where
  pub early : ¬ IsLastTake 31 []
  pub full : IsLastTake 32 []
  pub empty : IsLastTake 31 (take_at 5 replies.NoJob ∷ [])
  pub beyond : ¬ IsLastTake 32 (take_at 5 replies.NoJob ∷ [])

-- An arm that was made in the life of this boot, at this count of faults.
abbrev pub made_in : ℕ → ℕ → Arm → ArmMade
made_in boots faults arm = record { boots = boots; arm = arm; faults = faults }

-- The start of a life ends at its own first arm: of arms at the counts 3, 4 and 6, made in the lives 1, 2 and 2, that of life 2 ends at
-- 4, and that of life 3 lasts until the next power-up.
pub record StartsEndAtTheirOwnArm (arm : Arm) : Type 0 where
  pub second : start_count (Some (made_in 1 3 arm ∷ made_in 2 4 arm ∷ made_in 2 6 arm ∷ [])) 2 9 ≡ 4
  pub third : start_count (Some (made_in 1 3 arm ∷ made_in 2 4 arm ∷ made_in 2 6 arm ∷ [])) 3 9 ≡ 9

-- A life of one step, which makes an arm.
abbrev pub arming_life : Arm → LifeView
arming_life arm = record { parts = inl (steps.Arming arm) ∷ []; boot = Dark; journal = []; queue = []; own = []; lanes = [] }

-- An arm of the second of two lives is not made in the first.
pub record ArmsStayInTheirLife (arm : Arm) : Type 0 where
  pub given : arms_given 0 (arming_life arm ∷ dark_life ∷ []) ≡ (2, arm) ∷ []
  pub second : AreGiven ((2, arm) ∷ []) (Some []) (Some (made_in 2 0 arm ∷ []))
  pub first : ¬ AreGiven ((2, arm) ∷ []) (Some []) (Some (made_in 1 0 arm ∷ []))

-- A dark life makes its arms, and answers each other step the same.
pub record DarkLifeArms : Type 0 where
  pub armed : (arm : Arm) → dark_answer (actions.Arm arm) ≡ answers.Armed
  pub drained : dark_answer actions.Drain ≡ answers.Dark

-- A life that began with generation 7 of this state, with the calls of the worked life: its one acknowledged save has the number 8.
abbrev pub saving_life : Persist → LifeView
saving_life state = record { parts = []; boot = Started 7 state; journal = journal; queue = []; own = []; lanes = [] }

-- That generation, whose state is that of the snapshot, before another lane ended its cycle.
abbrev pub acknowledged : Config → Persist → Generation
acknowledged c state = record { number = 8; state = saved_after (start_from c state) (ops.Cycle 0 ∷ []) }

-- It is the one that was acknowledged last, also after a dark life. Another one of its number, or of a smaller one, is neither it nor a
-- later one.
pub record LastIsNamed (c : Config) (state : Persist) : Type 0 where
  pub none : last_acknowledged c (dark_life ∷ []) ≡ None
  pub named : last_acknowledged c (saving_life state ∷ []) ≡ Some (acknowledged c state)
  pub behind : last_acknowledged c (dark_life ∷ saving_life state ∷ []) ≡ Some (acknowledged c state)
  pub same : (g last : Generation) → g.number ≡ last.number → IsLastOrLater (Some last) g → g ≡ last
  pub smaller : (g last : Generation) → g.number < last.number → ¬ IsLastOrLater (Some last) g
