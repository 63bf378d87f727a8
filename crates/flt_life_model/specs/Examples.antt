-- A worked life, whose definitions are computed. Its first generation is of number 7. Lane 0 ends an operation cycle, and lane 2 takes a
-- snapshot; lane 1 ends another cycle before the save of lane 2 is acknowledged by the number 8. Then lane 2 takes another snapshot, and
-- its save fails; lane 1 asks for an event.
use Rattle.std.specs.Prelude.{◌≡◌, ◌⊎◌, List, [], ◌∷◌, true, false, IsFalse}
use Rattle.flt_flash.specs.Content.{Content, bytes as holding}
use Rattle.flt_flash.specs.State.{HasRisenBy}
use Rattle.flt_config.specs.declared.config.Config.{Config}
use Rattle.flt_config.specs.declared.persist.Persist.{Persist}
use Rattle.flt_store_model.specs.Holding.{Generation}
use Rattle.flt_model.specs.Start.{Start}
use Rattle.flt_model.specs.Durable.{saved_after}
use Rattle.flt_model.specs.declared.call.Op.TheVariants as ops
use Rattle.flt_queue.specs.declared.job.Job.{Job}
use Rattle.flt_queue.specs.declared.job.QueueOp.TheVariants as queue
use Rattle.flt_queue.specs.declared.job.QueueReplyOf.TheVariants as replies
use Rattle.flt_queue.specs.Queue.{History}
use Rattle.flt_store.specs.declared.fault.SaveFault.TheVariants.{Flash}
use Rattle.flt_step.specs.declared.step.Step.TheVariants as steps
use Rattle.flt_life_model.specs.declared.action.Action.TheVariants as actions
use Rattle.flt_life_model.specs.declared.answer.StepAnswer.TheVariants as answers
use Rattle.flt_life_model.specs.Actions.{action_of}
use Rattle.flt_life_model.specs.Answers.{Told}
use Rattle.flt_life_model.specs.Applications.{MayHold, up_to_done}
use Rattle.flt_life_model.specs.Causes.{AreCaused}
use Rattle.flt_life_model.specs.Draining.{take_at}
use Rattle.flt_life_model.specs.Journal.{Journal, Acknowledges, entry}
use Rattle.flt_fork.specs.Mixing.{Rise}
use Rattle.flt_life_model.specs.Moment.{Moment}
use Rattle.flt_life_model.specs.Played.{dark_answer}
use Rattle.flt_life_model.specs.Saving.{AreRising, IsLeft}

-- Its calls, newest first.
abbrev pub journal : Journal
journal =
    entry 1 (ops.Show 0) ∷ entry 2 ops.Snapshot ∷ entry 2 (ops.Saved 8) ∷ entry 1 (ops.Cycle 1) ∷ entry 2 ops.Snapshot ∷ entry 0 (ops.Cycle 0) ∷ []

-- The answers to the two saves, newest first.
abbrev pub answers_told : List Told
answers_told = answers.SaveFailed Flash ∷ answers.Saved 8 ∷ []

-- The generation that was acknowledged: its state is that of the snapshot, before lane 1 ended its cycle.
abbrev pub saved_generation : Start → Generation
saved_generation start = record { number = 8; state = saved_after start (ops.Cycle 0 ∷ []) }

-- The state that the second snapshot took.
abbrev pub snapshot_taken : Start → Persist
snapshot_taken start = saved_after start (ops.Saved 8 ∷ ops.Cycle 1 ∷ ops.Snapshot ∷ ops.Cycle 0 ∷ [])

-- It was acknowledged last, and is one more than the first. The life may leave it, or the one of the failed save, of number 9, and no
-- other, in particular none that is older.
pub record LeavesOneOfTwo (start : Start) (first : Generation) : Type 0 where
  pub acknowledged : Acknowledges start first journal (saved_generation start)
  pub rising : AreRising 7 answers_told
  pub newer : IsLeft start journal answers_told (saved_generation start) (record { number = 9; state = snapshot_taken start })
  pub others : (g : Generation) → IsLeft start journal answers_told (saved_generation start) g → (g ≡ saved_generation start) ⊎ (g ≡ record { number = 9; state = snapshot_taken start })

abbrev pub LifeLeaves : Type 0
LifeLeaves = (start : Start) (first : Generation) → LeavesOneOfTwo start first

-- A save that failed, and also a job, have their cause in three faults each, if a sequence number is left.
abbrev pub FailuresHaveFaults : Type 0
FailuresHaveFaults = (c : Config) (boot next : Moment) → AreCaused c boot next (answers.Drained 1 1 ∷ answers_told)
    → HasRisenBy 3 boot.faults next.faults × (IsFalse next.is_spent → HasRisenBy 6 boot.faults next.faults)

-- The calls of a lane at the places 1, 3 and 4 rise; two calls at one place do not.
pub record PlacesRise : Type 0 where
  pub rise : Rise 0 (take_at 1 replies.NoJob ∷ take_at 3 replies.NoJob ∷ take_at 4 replies.NoJob ∷ [])
  pub apart : ¬ Rise 0 (take_at 1 replies.NoJob ∷ take_at 1 replies.NoJob ∷ [])

-- A job of block 0 with the bytes of this one.
abbrev pub for_zero : Job → Job
for_zero job = record { block = 0; bytes = job.bytes }

-- A job was posted, taken and finished as written, and then another was posted, taken and not finished as written.
abbrev pub calls : Job → Job → History
calls first second = queue.Done 0 false ∷ queue.Take ∷ queue.Post false (for_zero second)
    ∷ queue.Done 0 true ∷ queue.Take ∷ queue.Post false (for_zero first) ∷ []

-- Block 0 holds the bytes of one of the two, and not what it held at first. A read between the drains gives those of the first.
pub record HoldsOneOfTwo (before held : Content) (first second : Job) : Type 0 where
  pub one_of : MayHold 0 before (calls first second) held → (held ≡ holding first.bytes.items) ⊎ (held ≡ holding second.bytes.items)
  pub between : MayHold 0 before (up_to_done 1 (calls first second)) held → held ≡ holding first.bytes.items

abbrev pub BlockHolds : Type 0
BlockHolds = (before held : Content) (first second : Job) → HoldsOneOfTwo before held first second

-- `urge` makes an urgent job, and `post` another; a dark life answers a read like any other step, and makes its arms.
pub record StepsDo : Type 0 where
  pub urged : (job : Job) → action_of (steps.Post true job.block job.bytes) ≡ actions.Queue (queue.Post true job)
  pub posted : (job : Job) → action_of (steps.Post false job.block job.bytes) ≡ actions.Queue (queue.Post false job)
  pub read : dark_answer (action_of (steps.Get 0)) ≡ answers.Dark
  pub saved : dark_answer (action_of steps.Save) ≡ answers.Dark
