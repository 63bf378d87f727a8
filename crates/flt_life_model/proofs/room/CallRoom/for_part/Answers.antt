use Rattle.std.proofs.Common.{◌∙◌, length, map, ap, arith}
use Rattle.std.specs.Prelude.{sum_by}
use Rattle.flt_step.specs.declared.step.Part.{Part}
use Rattle.flt_step.specs.Part.{part_of}
use Rattle.flt_life_model.specs.Actions.{action_of, call_count, queue_count}
use Rattle.flt_life_model.specs.Parts.{calls_of, queued_of, steps_in}
use Rattle.flt_life_model.proofs.Calls.{lane_fits, lane_within, step_calls_most, step_queued_most}
use Rattle.flt_life_model.proofs.room.CallRoom.for_part.Goals as goal

pub for_lane-requires : goal.for_lane-requires
for_lane-requires c =
    let within = lane_within c.deref-lane-items.result.now c.loop-lane.lane-index c.lane-item.result c.loop-lane-test.true c.lane-item.is in
    let all = ap (λ lanes. sum_by length (map (λ lane. lane.items) lanes)) c.deref-lane-items.ensures.value in
    let steps = ap (λ (p : Part). steps_in (part_of p)) c.in-Lanes.is in
    let few = c.requires in
    let same = ap length c.deref.ensures.value in
    omega (arith, within, all, steps, few, same)

pub grow-requires-clause-machine : goal.grow-requires-clause-machine
grow-requires-clause-machine c =
    let all = ap (λ lanes. sum_by length (map (λ lane. lane.items) lanes)) c.deref-lane-items.ensures.value in
    let steps = ap (λ (p : Part). steps_in (part_of p)) c.in-Lanes.is in
    let few = c.requires in
    let fits = lane_fits c.deref-lane-items.result.now c.loop-lane.lane-index c.lane-item.result c.loop-lane-test.true c.lane-item.is
    (λ step. call_count (action_of step)) step_calls_most (omega (arith, all, steps, few)) in
    let room = c.loop-lane.invariant.machine in
    let is = c.for_lane.ensures.machine ∙ ap calls_of c.deref.ensures.value in
    omega (arith, fits, room, is)

pub grow-requires-clause-queue : goal.grow-requires-clause-queue
grow-requires-clause-queue c =
    let all = ap (λ lanes. sum_by length (map (λ lane. lane.items) lanes)) c.deref-lane-items.ensures.value in
    let steps = ap (λ (p : Part). steps_in (part_of p)) c.in-Lanes.is in
    let few = c.requires in
    let fits = lane_fits c.deref-lane-items.result.now c.loop-lane.lane-index c.lane-item.result c.loop-lane-test.true c.lane-item.is
    (λ step. queue_count (action_of step)) step_queued_most (omega (arith, all, steps, few)) in
    let room = c.loop-lane.invariant.queue in
    let is = c.for_lane.ensures.queue ∙ ap queued_of c.deref.ensures.value in
    omega (arith, fits, room, is)
