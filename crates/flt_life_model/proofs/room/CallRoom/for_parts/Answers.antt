use Rattle.std.proofs.Common.{arith}
use Rattle.flt_life_model.specs.Parts.{calls_in, queued_in}
use Rattle.flt_life_model.proofs.Sizes.{steps_within}
use Rattle.flt_life_model.proofs.Calls.{part_calls_most, part_fits, part_more, part_queued_most}
use Rattle.flt_life_model.proofs.room.CallRoom.for_parts.Goals as goal

pub for_part-requires : goal.for_part-requires
for_part-requires c =
    let most = steps_within c.args.parts.now c.loop-part.part-index c.part-item.result c.loop-part-test.true c.part-item.is in
    let few = c.requires in
    omega (arith, most, few)

pub grow-requires-clause-machine : goal.grow-requires-clause-machine
grow-requires-clause-machine c =
    let fits = part_fits calls_in part_calls_most c.args.parts.now c.loop-part.part-index c.part-item.result c.loop-part-test.true c.part-item.is c.requires in
    let room = c.loop-part.invariant.machine in
    let is = c.for_part.ensures.machine in
    omega (arith, fits, room, is)

pub grow-requires-clause-queue : goal.grow-requires-clause-queue
grow-requires-clause-queue c =
    let fits = part_fits queued_in part_queued_most c.args.parts.now c.loop-part.part-index c.part-item.result c.loop-part-test.true c.part-item.is c.requires in
    let room = c.loop-part.invariant.queue in
    let is = c.for_part.ensures.queue in
    omega (arith, fits, room, is)

pub loop-part-preserved : goal.loop-part-preserved
loop-part-preserved c =
    let calls = part_more calls_in c.args.parts.now c.loop-part.part-index c.part-item.result c.loop-part-test.true c.part-item.is in
    let queued = part_more queued_in c.args.parts.now c.loop-part.part-index c.part-item.result c.loop-part-test.true c.part-item.is in
    let room = c.loop-part.invariant in
    let more = c.for_part.ensures in
    let grown = c.grow.ensures in
    record {
      machine = omega (arith, calls, room.machine, more.machine, grown.machine);
      queue = omega (arith, queued, room.queue, more.queue, grown.queue);
    }
