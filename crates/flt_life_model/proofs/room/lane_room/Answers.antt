use Rattle.std.proofs.Common.{take, arith}
use Rattle.std.proofs.lemmas.List.{length-take-le}
use Rattle.flt_life_model.specs.Actions.{action_of}
use Rattle.flt_life_model.proofs.Sizes.{sizes_most, response_most}
use Rattle.flt_life_model.proofs.room.lane_room.Goals as goal

pub overflow_add-bytes : goal.overflow_add-bytes
overflow_add-bytes c =
    let so_far = sizes_most (take c.loop-step.step-index c.args.steps.now) in
    let size = length-take-le c.loop-step.step-index c.args.steps.now c.loop-step.auto.step-index-end in
    let one = response_most (action_of c.step-item.result) in
    omega (arith, so_far, size, one, c.loop-step.invariant, c.response_size-bytes.ensures, c.requires)

pub with_room-requires : goal.with_room-requires
with_room-requires c =
    let so_far = sizes_most (take c.loop-step.step-index c.args.steps.now) in
    let size = length-take-le c.loop-step.step-index c.args.steps.now c.loop-step.auto.step-index-end in
    record { few = omega (arith, so_far, size, c.loop-step.invariant, c.requires) }
