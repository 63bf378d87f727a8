use Rattle.std.proofs.Common.{inr, ◌+◌, ◌∷◌, List, Vec, map, sym, subst, ap, ◌∙◌}
use Rattle.flt_step.specs.declared.step.Step.{Step}
use Rattle.flt_step.specs.Part.{part_of, parts_of}
use Rattle.flt_lane.specs.Views.{BlockRoom}
use Rattle.flt_lane.proofs.Parts.{left_next, left_of}
use Rattle.flt_lane.proofs.Rooms.{AreHandedOut, hand_more, hand_none, next_lanes}
use Rattle.flt_lane.proofs.room.block_rooms.Goals as goal
use Rattle.flt_lane.proofs.room.block_rooms.Goals.{in-Lanes+in_ok-room+in_ok-push, in_default}

pub loop-part-preserved : goal.loop-part-preserved
loop-part-preserved g c =
    let parts = parts_of c.args.parts.now in
    let left = left_of c.args.parts.now c.loop-part.part-index in
    let later = left_of c.args.parts.now (c.loop-part.part-index + 1) in
    let next = left_next c.args.parts.now c.loop-part.part-index c.part-item.result c.loop-part-test.true c.part-item.is in
    elim c.match-part.branch [
      | in-Lanes+in_ok-room+in_ok-push w ↦
          let block : List (List Step) = map (λ (lane : Vec Step _). lane.items) w.deref.result.now in
          let is = next ∙ ap (λ p. part_of p ∷ later) w.in-Lanes.is ∙ ap (λ l. inr (map (λ (lane : Vec Step _). lane.items) l) ∷ later) (sym w.deref.ensures.value) in
          let lanes = next_lanes block parts left later c.loop-part.rooms.items c.loop-part.lanes.rest.items is c.loop-part.invariant in
          let more = hand_more block parts left later c.loop-part.rooms.items c.loop-part.lanes.rest.items w.in_ok-room.room w.block_room.new.lanes.rest.items is c.loop-part.invariant
          w.in_ok-room.ensures.lanes w.in_ok-room.ensures.room (w.in_ok-room.ensures.later _ lanes) w.in_ok-room.ensures.ready in
          rw (w.lanes-is, w.rooms-is) (subst (λ (l : List BlockRoom). AreHandedOut parts later l w.block_room.new.lanes.rest.items) (sym w.in_ok-push.ensures.items) more)
      | in_default w ↦
          rw (w.lanes-is, w.rooms-is) (hand_none w.in_default.field-0 parts left later c.loop-part.rooms.items c.loop-part.lanes.rest.items (next ∙ ap (λ p. part_of p ∷ later) w.in_default.is) c.loop-part.invariant)
    ]
