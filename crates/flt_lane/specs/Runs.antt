-- What the steps of a lane do on the two locks of a life: each makes its calls, each call at its own place of the journal, and is
-- answered by them.
use Rattle.std.specs.Prelude.{ℕ, List}
use Rattle.flt_fork.specs.Runs.{MakesBy, RunsBy}
use Rattle.flt_step.specs.declared.step.Step.{Step}
use Rattle.flt_life_model.specs.Actions.{action_of, call_count, queue_count}
use Rattle.flt_life_model.specs.Answers.{Told}
use Rattle.flt_life_model.specs.Played.{StepMakes, StepQueues}
use Rattle.flt_queue.specs.Call as queued
use Rattle.flt_queue.specs.Queue as queue
use Rattle.flt_shared.specs.Call.{Seat, MayBeAsked, reply_after}

-- How many calls a step makes at most of the status machine, and of the queue.
abbrev pub calls_by : Step → ℕ
calls_by step = call_count (action_of step)

abbrev pub queued_by : Step → ℕ
queued_by step = queue_count (action_of step)

-- What is known of a seat of the queue.
abbrev pub QueueSeat : Type 0
QueueSeat = queued.Seat

-- A step, and steps, on the lock of the status machine.
abbrev pub Makes : Seat → Step → Told → Seat → Type 0
Makes = MakesBy MayBeAsked reply_after StepMakes calls_by

abbrev pub RunsSteps : Seat → List Step → List Told → Seat → Type 0
RunsSteps = RunsBy MayBeAsked reply_after StepMakes calls_by

-- The same on the lock of the queue.
abbrev pub Queues : QueueSeat → Step → Told → QueueSeat → Type 0
Queues = MakesBy queue.IsQueueCallFor queued.reply_after StepQueues queued_by

abbrev pub RunsQueue : QueueSeat → List Step → List Told → QueueSeat → Type 0
RunsQueue = RunsBy queue.IsQueueCallFor queued.reply_after StepQueues queued_by
