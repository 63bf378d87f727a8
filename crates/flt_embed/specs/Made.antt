-- What a call leaves of a fault memory.
use Rattle.std.specs.Prelude.{◌≡◌, ℕ, ◌∷◌}
use Rattle.flt_model.specs.declared.call.Op.{Op}
use Rattle.flt_dcm.specs.Unit.{UnitView, Answers, Takes}
use Rattle.flt_queue.specs.declared.job.QueueOp.{QueueOp}
use Rattle.flt_queue.specs.declared.queue.JobQueue.{JobQueue}
use Rattle.flt_queue.specs.Queue.{History, answer_q}
use Rattle.flt_queue.specs.Stands.{QueueStands}
use Rattle.flt_life_model.specs.Answers.{Told}
use Rattle.flt_life_model.specs.declared.action.Action.{Action}
use Rattle.flt_life_model.specs.declared.action.Action.TheVariants as actions
use Rattle.flt_life_model.specs.declared.answer.StepAnswer.TheVariants as answers
use Rattle.flt_embed.specs.Carried.{carried}
use Rattle.flt_embed.specs.declared.fault.Fault.{Fault}
use Rattle.flt_embed.specs.declared.fault.Fault.TheVariants.{Flash, Text}
use Rattle.flt_embed.specs.declared.memory.Memory.{Memory}

-- A fault with which a call changes nothing.
abbrev pub ChangesNothing : Fault → Type 0
ChangesNothing Flash = ⊥
ChangesNothing Text = ⊥
ChangesNothing _ = Unit {0}

-- The machine took a call, and this is its answer.
abbrev pub IsOfMachine : Op → UnitView → Told → Type 0
IsOfMachine op unit (answers.Dem told) = Answers op unit told.reply
IsOfMachine op unit _ = ⊥

-- The queue took a call, and this is its answer.
abbrev pub IsOfQueue : History → QueueOp → Told → Type 0
IsOfQueue jobs op (answers.Queue told) = told.reply ≡ answer_q jobs op
IsOfQueue jobs op _ = ⊥

abbrev pub QueueTakes : ℕ → QueueOp → JobQueue → JobQueue → Told → Type 0
QueueTakes blocks op before after told = (jobs : History) → QueueStands blocks jobs before → QueueStands blocks (op ∷ jobs) after × IsOfQueue jobs op told

-- The operations that are handed out, carried out in order on the image before, give the image after.
abbrev pub HandsOut : Memory → Memory → Type 0
HandsOut before after = after.image.items ≡ carried before.config.pages after.operations.items before.image.items

-- A save is answered with the number that the memory gives from then on, or with why there is none.
abbrev pub IsSaved : Told → Memory → Type 0
IsSaved (answers.Saved number) after = after.generation ≡ number
IsSaved (answers.SaveFailed fault) after = Unit {0}
IsSaved _ after = ⊥

-- What a step came to, by what it does.
abbrev pub IsStepMade : Action → Told → Memory → Memory → Type 0
IsStepMade (actions.Call op) told before after = Takes op before.unit after.unit × IsOfMachine op before.unit told
IsStepMade (actions.Queue op) told before after = (after.unit ≡ before.unit) × QueueTakes before.config.blocks op before.queue after.queue told
IsStepMade actions.Save told before after = IsSaved told after
IsStepMade actions.Drain told before after = after.unit ≡ before.unit
IsStepMade (actions.Get block) told before after = (after.unit ≡ before.unit) × (after.queue ≡ before.queue)
IsStepMade (actions.Arm arm) told before after = ⊥
