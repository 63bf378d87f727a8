use Rattle.std.proofs.Common.{Vec, length, ap, arith}
use Rattle.std.proofs.lemmas.List.{length-map}
use Rattle.flt_step.specs.Part.{parts_of}
use Rattle.flt_life_model.specs.declared.room.LaneRoom.{LaneRoom}
use Rattle.flt_life_model.specs.Parts.{own_steps}
use Rattle.flt_life_model.proofs.Sizes.{lanes_count, own_most, sizes_most}
use Rattle.flt_life_model.proofs.room.LifeRoom.for_parts.Goals as goal

pub with_room-requires : goal.with_room-requires
with_room-requires c =
    let needs = c.in_ok-answers in
    let many = own_most (parts_of c.args.parts.now) in
    let most = sizes_most (own_steps (parts_of c.args.parts.now)) in
    record { few = omega (arith, many, most, needs.bytes-is, needs.ensures.bytes, c.requires.few) }

pub returns : goal.returns
returns c =
    let needs = c.in_ok-answers in
    let own = c.in_ok-own.ensures in
    let steps = ap length needs.ensures.lanes in
    let mapped = length-map needs.field-0.lanes.items (λ (room : LaneRoom). room.steps.now) in
    let lanes = ap (λ (rooms : Vec LaneRoom _). length rooms.items) needs.lanes-is in
    let count = lanes_count (parts_of c.args.parts.now) in
    record {
      own_empty = record { answers = own.none; responses = own.no_bytes };
      own_room = record {
        answers = omega (arith, own.answers, needs.answers-is, needs.ensures.answers);
        responses = omega (arith, own.responses, needs.bytes-is, needs.ensures.bytes);
      };
      lanes_are = needs.ensures.lanes;
      ready = needs.ensures.ready;
      none_told = (c.in_ok-told.ensures.items, c.in_ok-told.ensures.len);
      told_room = omega (arith, steps, mapped, lanes, count, c.len.ensures, c.in_ok-told.ensures.capacity);
      no_replies = (c.in_ok-replies.ensures.items, c.in_ok-replies.ensures.len);
      replies_room = omega (arith, steps, mapped, lanes, count, c.len-2.ensures, c.in_ok-replies.ensures.capacity);
    }
