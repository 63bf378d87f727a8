-- How a life is made of the parts of its script: which calls each step makes, that the journals have them, and how each is answered.
use Rattle.std.specs.Prelude.{◌≡◌, ℕ, List, [], ◌∷◌, All, map, reverse}
use Rattle.flt_turn.specs.declared.answer.Answer.{Answer}
use Rattle.flt_config.specs.declared.config.Config.{Config}
use Rattle.flt_model.specs.Start.{Start}
use Rattle.flt_model.specs.Answer.{answer}
use Rattle.flt_model.specs.declared.call.Op.{Op}
use Rattle.flt_model.specs.declared.call.Op.TheVariants as ops
use Rattle.flt_model.specs.Reply.{Reply}
use Rattle.flt_queue.specs.declared.job.QueueOp.{QueueOp}
use Rattle.flt_queue.specs.Reply.{QueueReply}
use Rattle.flt_queue.specs.Call as queued
use Rattle.flt_step.specs.declared.step.Step.{Step}
use Rattle.flt_step.specs.Part.{PartOf}
use Rattle.flt_life_model.specs.declared.action.Action.{Action}
use Rattle.flt_life_model.specs.declared.action.Action.TheVariants as actions
use Rattle.flt_life_model.specs.declared.answer.StepAnswer.TheVariants as answers
use Rattle.flt_life_model.specs.declared.life.Boot.{Boot}
use Rattle.flt_life_model.specs.declared.life.Boot.TheVariants.{Started, Dark, Refused}
use Rattle.flt_life_model.specs.Actions.{action_of}
use Rattle.flt_life_model.specs.Answers.{Told}
use Rattle.flt_life_model.specs.Chain.{LifeView, start_from}
use Rattle.flt_life_model.specs.Draining.{DrainMakes}
use Rattle.flt_life_model.specs.Journal.{Journal}
use Rattle.flt_life_model.specs.Making.{PartsMake}
use Rattle.flt_turn.specs.declared.vault.Entry.{Entry}
use Rattle.flt_fork.specs.Mixing.{Call, Block, HasInOrder, BlockTold, Rise, calls_in_lane}
use Rattle.flt_life_model.specs.Parts.{own_actions, lanes_in}

-- The machine's reply after these calls, oldest first.
abbrev pub reply_after : Start → List Op → Op → Reply
reply_after start calls op = answer start (reverse calls) op

-- A save takes a snapshot, and then, if it is answered with a number, is acknowledged by it.
abbrev pub SaveMakes : Told → List (Call Op Reply) → Type 0
SaveMakes (answers.Saved number) calls =
    (taken : Answer Reply) × (noted : Answer Reply) × (calls ≡ record { op = ops.Snapshot; told = taken } ∷ record { op = ops.Saved number; told = noted } ∷ [])
SaveMakes (answers.SaveFailed fault) calls = (taken : Answer Reply) × (calls ≡ record { op = ops.Snapshot; told = taken } ∷ [])
SaveMakes _ calls = ⊥

-- The answer to a read of an application block.
abbrev pub IsGot : Told → Type 0
IsGot (answers.Bytes bytes) = Unit {0}
IsGot answers.NoBlock = Unit {0}
IsGot answers.BlockFlash = Unit {0}
IsGot _ = ⊥

-- The calls of the status machine that a step with this answer makes: its answer is the machine's, the queue's or the store's.
abbrev pub ActionMakes : Action → Told → List (Call Op Reply) → Type 0
ActionMakes (actions.Call op) told calls = (reply : Answer Reply) × (told ≡ answers.Dem reply) × (calls ≡ record { op = op; told = reply } ∷ [])
ActionMakes (actions.Queue op) told calls = calls ≡ []
ActionMakes actions.Save told calls = SaveMakes told calls
ActionMakes actions.Drain told calls = calls ≡ []
ActionMakes (actions.Get block) told calls = IsGot told × (calls ≡ [])
ActionMakes (actions.Arm arm) told calls = (told ≡ answers.Armed) × (calls ≡ [])

abbrev pub StepMakes : Step → Told → List (Call Op Reply) → Type 0
StepMakes step told calls = ActionMakes (action_of step) told calls

abbrev pub DrainTold : Told → List (Call QueueOp QueueReply) → Type 0
DrainTold (answers.Drained written failed) calls = DrainMakes written failed calls
DrainTold _ calls = ⊥

-- The calls of the queue that a step with this answer makes.
abbrev pub ActionQueues : Action → Told → List (Call QueueOp QueueReply) → Type 0
ActionQueues (actions.Queue op) told calls = (reply : Answer QueueReply) × (told ≡ answers.Queue reply) × (calls ≡ record { op = op; told = reply } ∷ [])
ActionQueues actions.Drain told calls = DrainTold told calls
ActionQueues _ told calls = calls ≡ []

abbrev pub StepQueues : Step → Told → List (Call QueueOp QueueReply) → Type 0
StepQueues step told calls = ActionQueues (action_of step) told calls

-- The journal of a machine has the calls of the parts, those of each part together and after those of the parts before it, those of
-- each lane in its order, and no others. Each call, of lane 0 and of the lanes of the blocks, whose numbers count up from 1, is
-- answered at its place, and the places of a lane's answers rise in the order of its calls.
pub record IsMade {S O R : Type 0} (MadeBy : Step → Told → List (Call O R) → Type 0) (answer : S → List O → O → R) (start : S)
    (parts : List (PartOf Step)) (own : List Told) (lanes : List (List Told)) (journal : List (Entry O)) : Type 0 where
  pub blocks : List (Block O R)
  pub made : PartsMake MadeBy 1 parts own lanes blocks
  pub in_order : HasInOrder blocks journal
  pub told : All (BlockTold answer start journal) blocks
  pub rising : (number : ℕ) → Rise 0 (calls_in_lane number blocks)

-- This holds for the status machine and for the queue.
pub record IsLife (start : Start) (parts : List (PartOf Step)) (own : List Told) (lanes : List (List Told)) (journal : Journal)
    (queue : List (Entry QueueOp)) : Type 0 where
  pub dem : IsMade StepMakes reply_after start parts own lanes journal
  pub jobs : IsMade StepQueues queued.reply_after start.config.blocks parts own lanes queue

-- What a dark life answers to a step.
abbrev pub dark_answer : Action → Told
dark_answer (actions.Arm arm) = answers.Armed
dark_answer _ = answers.Dark

abbrev pub dark_answers : List Step → List Told
dark_answers steps = map (λ step. dark_answer (action_of step)) steps

-- The calls and the answers of a life, oldest first, are those of its parts, by how it began.
abbrev pub IsPlayedBy : Config → List (PartOf Step) → Journal → List (Entry QueueOp) → List Told → List (List Told) → Boot → Type 0
IsPlayedBy c parts journal queue own lanes (Started number state) = IsLife (start_from c state) parts own lanes journal queue
IsPlayedBy c parts journal queue own lanes Dark = (journal ≡ []) × (queue ≡ []) × (own ≡ map dark_answer (own_actions parts))
    × (lanes ≡ map dark_answers (lanes_in parts))
IsPlayedBy c parts journal queue own lanes (Refused fault) = (journal ≡ []) × (queue ≡ []) × (own ≡ []) × (lanes ≡ [])

abbrev pub IsPlayed : Config → LifeView → Type 0
IsPlayed c life = IsPlayedBy c life.parts (reverse life.journal) (reverse life.queue) life.own life.lanes life.boot
