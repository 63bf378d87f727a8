use Rattle.std.proofs.Common.{◌≤◌, ◌∙◌, ◌++◌, All, Vec, List, ap, arith, length, map, sym, subst, take}
use Rattle.std.specs.Prelude.{vec_len}
use Rattle.std.proofs.lemmas.List.{length-map}
use Rattle.flt_step.specs.declared.step.Step.{Step}
use Rattle.flt_step.specs.Part.{part_of, parts_of}
use Rattle.flt_life_model.specs.Actions.{action_of}
use Rattle.flt_life_model.specs.Parts.{own_steps}
use Rattle.flt_life_model.specs.declared.room.LaneRoom.{LaneRoom}
use Rattle.flt_life_model.specs.Room.{IsLaneRoom, sizes_of, steps_of}
use Rattle.flt_life_model.proofs.Sizes.{own_within, own_count, own_sizes, no_own_more, sizes_most, response_most, lanes_within, lanes_more, widths_with, no_lanes_more, no_widths_more, short_lanes}
use Rattle.flt_life_model.proofs.room.needs_of.Goals as goal
use Rattle.flt_life_model.proofs.room.needs_of.Goals.{in-One, in-Lanes+in_ok-add_lanes-in-Lanes}

pub overflow_add-answers : goal.overflow_add-answers
overflow_add-answers c =
    let most = own_within c.args.parts.now c.loop-part.part-index c.part-item.result c.loop-part-test.true c.part-item.is c.in-One.step c.in-One.is in
    omega (arith, most, c.loop-part.invariant.answers, c.requires.few)

pub overflow_add-bytes : goal.overflow_add-bytes
overflow_add-bytes c =
    let most = own_within c.args.parts.now c.loop-part.part-index c.part-item.result c.loop-part-test.true c.part-item.is c.in-One.step c.in-One.is in
    let so_far = sizes_most (own_steps (parts_of (take c.loop-part.part-index c.args.parts.now))) in
    let one = response_most (action_of c.in-One.step) in
    omega (arith, most, so_far, one, c.loop-part.invariant.bytes, c.response_size-bytes.ensures, c.requires.few)

pub add_lanes-requires-clause-few : goal.add_lanes-requires-clause-few
add_lanes-requires-clause-few c =
    let most = lanes_within c.args.parts.now c.loop-part.part-index c.part-item.result c.loop-part-test.true c.part-item.is _ (ap part_of c.in-Lanes.is) in
    subst (λ (l : List (Vec Step _)). All (λ (lane : Vec Step _). length lane.items ≤ 65536) l) (sym c.deref.ensures.value) (short_lanes 65536 c.in-Lanes.lanes.items (omega (arith, most, c.requires.few)))

pub loop-part-preserved : goal.loop-part-preserved
loop-part-preserved c =
    let parts = c.args.parts.now in
    let index = c.loop-part.part-index in
    let part = c.part-item.result in
    elim c.match-part.branch [
      | in-One w ↦
          let count = own_count parts index part c.loop-part-test.true c.part-item.is w.in-One.step w.in-One.is in
          let sizes = own_sizes parts index part c.loop-part-test.true c.part-item.is w.in-One.step w.in-One.is in
          let lanes = no_lanes_more parts index part c.loop-part-test.true c.part-item.is w.in-One.step w.in-One.is in
          let widths = no_widths_more parts index part c.loop-part-test.true c.part-item.is w.in-One.step w.in-One.is in
          let len = ap (λ (rooms : Vec LaneRoom _). vec_len rooms) w.rooms-is in
          record {
            answers = omega (arith, count, c.loop-part.invariant.answers, w.answers-is);
            bytes = omega (arith, sizes, c.loop-part.invariant.bytes, w.bytes-is, w.response_size-bytes.ensures);
            lanes = ap (λ (rooms : Vec LaneRoom _). steps_of rooms.items) w.rooms-is ∙ c.loop-part.invariant.lanes ∙ sym lanes;
            len = omega (arith, widths, c.loop-part.invariant.len, len);
            ready = subst (λ (rooms : Vec LaneRoom _). All IsLaneRoom rooms.items) (sym w.rooms-is) c.loop-part.invariant.ready;
          }
      | in-Lanes+in_ok-add_lanes-in-Lanes w ↦
          let block = ap part_of w.in-Lanes.is in
          let same = no_own_more parts index part c.loop-part-test.true c.part-item.is _ block in
          let lanes = lanes_more parts index part c.loop-part-test.true c.part-item.is _ block in
          let widths = widths_with parts index part c.loop-part-test.true c.part-item.is _ block in
          let mapped = length-map w.in-Lanes.lanes.items (λ (lane : Vec Step _). lane.items) in
          let size = ap length w.deref.ensures.value in
          let len = ap (λ (rooms : Vec LaneRoom _). vec_len rooms) w.rooms-is in
          record {
            answers = w.answers-is ∙ c.loop-part.invariant.answers ∙ ap length (sym same);
            bytes = w.bytes-is ∙ c.loop-part.invariant.bytes ∙ ap sizes_of (sym same);
            lanes = ap (λ (rooms : Vec LaneRoom _). steps_of rooms.items) w.rooms-is ∙ w.in_ok-add_lanes-in-Lanes.ensures.lanes
                ∙ ap (λ l. steps_of c.loop-part.rooms.items ++ map (λ (lane : Vec Step _). lane.items) l) w.deref.ensures.value
                ∙ ap (λ l. l ++ map (λ (lane : Vec Step _). lane.items) w.in-Lanes.lanes.items) c.loop-part.invariant.lanes ∙ sym lanes;
            len = omega (arith, widths, c.loop-part.invariant.len, len, mapped, size, w.in_ok-add_lanes-in-Lanes.ensures.len);
            ready = subst (λ (rooms : Vec LaneRoom _). All IsLaneRoom rooms.items) (sym w.rooms-is) w.add_lanes.ensures.ready;
          }
    ]
