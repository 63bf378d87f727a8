use Rattle.std.proofs.Common.{◌∙◌, ◌++◌, ◌∷◌, [], length, map, ap, sym, subst, arith}
use Rattle.std.specs.Prelude.{All}
use Rattle.std.proofs.lemmas.List.{append_assoc, map-append}
use Rattle.flt_life_model.specs.declared.room.LaneRoom.{LaneRoom}
use Rattle.flt_life_model.specs.Played.{dark_answers}
use Rattle.flt_life_model.specs.Room.{IsLaneRoom, steps_of, told_in}
use Rattle.flt_lives.specs.Dark.{IsLaneSteps}
use Rattle.flt_lives.proofs.Rooms.{next_of}
use Rattle.flt_lives.proofs.dark.take_dark_lanes.Goals as goal

pub take_dark_lane-replies-requires-clause-steps : goal.take_dark_lane-replies-requires-clause-steps
take_dark_lane-replies-requires-clause-steps c =
    let done = c.loop-lane.yielded in
    let later = c.next.new.self.rest.items in
    let split = ap steps_of (sym c.loop-lane.invariant.all ∙ ap (λ l. done ++ l) c.in-Some.ensures.steps.0) ∙ map-append (λ (l : LaneRoom). l.steps.now) done (c.in-Some.lane ∷ later) in
    next_of IsLaneSteps (steps_of done) (steps_of later) c.in-Some.lane.steps.now (subst (All IsLaneSteps) split c.requires.steps)

pub take_dark_lane-replies-requires-clause-room : goal.take_dark_lane-replies-requires-clause-room
take_dark_lane-replies-requires-clause-room c =
    next_of IsLaneRoom c.loop-lane.yielded c.next.new.self.rest.items c.in-Some.lane
    (subst (All IsLaneRoom) (sym c.loop-lane.invariant.all ∙ ap (λ l. c.loop-lane.yielded ++ l) c.in-Some.ensures.steps.0) c.requires.ready)

pub loop-lane-preserved : goal.loop-lane-preserved
loop-lane-preserved c =
    let done = c.loop-lane.yielded in
    let lane = c.in-Some.lane in
    let next = c.in-Some.ensures.steps.0 in
    let len = c.push_reserved.ensures.len in
    let size = ap length next in
    let room = c.loop-lane.invariant.room in
    let capacity = c.push_reserved.ensures.capacity in
    record {
      all = append_assoc done (lane ∷ []) c.next.new.self.rest.items ∙ ap (λ l. done ++ l) (sym next) ∙ c.loop-lane.invariant.all;
      told = ap (map told_in) c.push_reserved.ensures.items ∙ map-append told_in c.loop-lane.told.items (c.take_dark_lane-replies.result ∷ [])
          ∙ (λ i. c.loop-lane.invariant.told i ++ c.take_dark_lane-replies.ensures i ∷ [])
          ∙ sym (ap (map dark_answers) (map-append (λ (l : LaneRoom). l.steps.now) done (lane ∷ [])) ∙ map-append dark_answers (steps_of done) (lane.steps.now ∷ []));
      room = omega (arith, len, size, room, capacity);
    }
