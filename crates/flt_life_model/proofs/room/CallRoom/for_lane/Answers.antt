use Rattle.std.proofs.Common.{arith}
use Rattle.flt_life_model.specs.Actions.{action_of, call_count, queue_count}
use Rattle.flt_life_model.proofs.Calls.{step_calls_most, step_fits, step_queued_most}
use Rattle.flt_life_model.proofs.room.CallRoom.for_lane.Goals as goal

pub grow-requires-clause-machine : goal.grow-requires-clause-machine
grow-requires-clause-machine c =
    let fits = step_fits (λ step. call_count (action_of step)) step_calls_most c.args.steps.now c.loop-step.step-index c.step-item.result c.loop-step-test.true c.requires in
    let room = c.loop-step.invariant.machine in
    let is = c.for_step.ensures.machine in
    omega (arith, fits, room, is)

pub grow-requires-clause-queue : goal.grow-requires-clause-queue
grow-requires-clause-queue c =
    let fits = step_fits (λ step. queue_count (action_of step)) step_queued_most c.args.steps.now c.loop-step.step-index c.step-item.result c.loop-step-test.true c.requires in
    let room = c.loop-step.invariant.queue in
    let is = c.for_step.ensures.queue in
    omega (arith, fits, room, is)
