-- What the steps of a script do, and what a step needs to be made.
use Rattle.std.specs.Prelude.{ℕ, ◌<◌, List, [], ◌∷◌, ◌++◌}
use Rattle.flt_flash.specs.State.{CanArm}
use Rattle.flt_flash.specs.declared.arm.Arm.{Arm as Arming}
use Rattle.flt_config.specs.declared.config.Config.{Config}
use Rattle.flt_model.specs.declared.TheConstants.{RESPONSE}
use Rattle.flt_model.specs.declared.call.Op.{Op}
use Rattle.flt_model.specs.declared.call.Op.TheVariants as ops
use Rattle.flt_dcm.specs.Unit.{IsAdmitted}
use Rattle.flt_queue.specs.declared.job.QueueOp.{QueueOp}
use Rattle.flt_queue.specs.declared.job.QueueOp.TheVariants as queue
use Rattle.flt_queue.specs.Queue as jobs
use Rattle.flt_step.specs.declared.step.Step.{Step}
use Rattle.flt_step.specs.declared.step.Step.TheVariants as steps
use Rattle.flt_life_model.specs.declared.action.Action.{Action}
use Rattle.flt_life_model.specs.declared.action.Action.TheVariants.{Call, Queue, Save, Drain, Get, Arm}

-- What a step does.
abbrev pub action_of : Step → Action
action_of (steps.Report event report) = Call (ops.Report event report)
action_of (steps.Show event) = Call (ops.Show event)
action_of (steps.Cycle cycle) = Call (ops.Cycle cycle)
action_of (steps.Tick ticks) = Call (ops.Tick ticks)
action_of (steps.Signal index value) = Call (ops.Signal index value)
action_of (steps.Enable condition fulfilled) = Call (ops.Enable condition fulfilled)
action_of (steps.Request tester bytes) = Call (ops.Request tester bytes)
action_of steps.Save = Save
action_of (steps.Post urgent block bytes) = Queue (queue.Post urgent (record { block = block; bytes = bytes }))
action_of steps.Drain = Drain
action_of (steps.Get block) = Get block
action_of (steps.Ask block) = Queue (queue.Ask block)
action_of (steps.Arming arm) = Arm arm

-- A call of a step is not one that only a save makes.
abbrev pub IsStepCall : Op → Type 0
IsStepCall ops.Snapshot = ⊥
IsStepCall (ops.Saved number) = ⊥
IsStepCall _ = Unit {0}

-- A call of the queue is not one that only a drain makes.
abbrev pub IsQueueCall : QueueOp → Type 0
IsQueueCall (queue.Post urgent job) = Unit {0}
IsQueueCall queue.Take = ⊥
IsQueueCall (queue.Done block written) = ⊥
IsQueueCall (queue.Ask block) = Unit {0}

-- A step whose numbers are in their ranges.
abbrev pub IsPossible : Config → Action → Type 0
IsPossible c (Call op) = IsStepCall op × IsAdmitted c op
IsPossible c (Queue op) = IsQueueCall op × jobs.IsQueueCallFor c.blocks op
IsPossible c Save = Unit {0}
IsPossible c Drain = Unit {0}
IsPossible c (Get block) = block < c.blocks
IsPossible c (Arm arm) = CanArm arm

-- An arm whose numbers are in their ranges, or another step.
abbrev pub IsPossibleArm : Action → Type 0
IsPossibleArm (Arm arm) = CanArm arm
IsPossibleArm _ = Unit {0}

-- The arm that a step makes, if it makes one.
abbrev pub arms_of : Action → List Arming
arms_of (Arm arm) = arm ∷ []
arms_of _ = []

-- The arms that steps make, in order.
abbrev pub all_arms : List Action → List Arming
all_arms [] = []
all_arms (action ∷ rest) = arms_of action ++ all_arms rest

-- The number of arms that a step makes.
abbrev pub arm_count : Action → ℕ
arm_count (Arm arm) = 1
arm_count _ = 0

-- The number of calls of the status machine that a step makes at most: a save takes a snapshot, and is acknowledged.
abbrev pub call_count : Action → ℕ
call_count (Call op) = 1
call_count Save = 2
call_count _ = 0

-- The number of calls of the queue that a step makes at most: a drain takes 32 jobs, and notes what became of each.
abbrev pub queue_count : Action → ℕ
queue_count (Queue op) = 1
queue_count Drain = 64
queue_count _ = 0

-- The number of bytes of the longest answer to a step: a request has a response, and a read of a block the bytes that it holds.
abbrev pub response_size : Action → ℕ
response_size (Call (ops.Request tester bytes)) = RESPONSE
response_size (Get block) = 32
response_size _ = 0
