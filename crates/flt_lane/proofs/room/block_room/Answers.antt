use Rattle.std.proofs.Common.{◌≡◌, List, ◌++◌, All, Vec, map, sym, subst, arith}
use Rattle.std.proofs.lemmas.List.{length-map}
use Rattle.flt_step.specs.declared.step.Step.{Step}
use Rattle.flt_life_model.specs.Room.{IsLaneRoom, steps_of}
use Rattle.flt_fork.proofs.Blocks.{all_left, all_right}
use Rattle.flt_lane.proofs.Rooms.{AreTaken, taken_rooms}
use Rattle.flt_lane.proofs.room.block_room.Given as given
use Rattle.flt_lane.proofs.room.block_room.Goals as goal
use Rattle.flt_lane.proofs.room.block_room.Goals.{In_ok-works}

are_taken : (g : given.Over) (c : In_ok-works g) (later : List (List Step)) → steps_of c.args.lanes.now.rest.items ≡ map (λ (lane : Vec Step _). lane.items) c.args.block.now ++ later
    → AreTaken (map (λ (lane : Vec Step _). lane.items) c.args.block.now) c.in_ok-lanes.lanes.items c.next_lanes.new.lanes.rest.items later
are_taken g c later is =
    let block : List (List Step) = map (λ (lane : Vec Step _). lane.items) c.args.block.now in
    let mapped = length-map c.args.block.now (λ (lane : Vec Step _). lane.items) in
    taken_rooms block later c.args.lanes.now.rest.items c.in_ok-lanes.lanes.items c.next_lanes.new.lanes.rest.items c.in_ok-lanes.ensures.lanes
    (omega (arith, c.in_ok-lanes.ensures.count, mapped)) is

all_ready : (g : given.Over) (c : In_ok-works g) → All IsLaneRoom (c.in_ok-lanes.lanes.items ++ c.next_lanes.new.lanes.rest.items)
all_ready g c = subst (All IsLaneRoom) (sym c.in_ok-lanes.ensures.lanes) c.requires.ready

pub returns-clause-lanes : goal.returns-clause-lanes
returns-clause-lanes g c = (are_taken g c c.requires.lanes.0 c.requires.lanes.1).taken

pub returns-clause-room : goal.returns-clause-room
returns-clause-room g c = record {
  ready = all_left IsLaneRoom c.in_ok-lanes.lanes.items c.next_lanes.new.lanes.rest.items (all_ready g c);
  empty = c.in_ok-works.ensures.items;
  none = c.in_ok-works.ensures.len;
  room = omega (arith, c.in_ok-works.ensures.capacity, c.in_ok-lanes.ensures.count);
}

pub returns-clause-later : goal.returns-clause-later
returns-clause-later g c = λ later is. (are_taken g c later is).rest

pub returns-clause-ready : goal.returns-clause-ready
returns-clause-ready g c = all_right IsLaneRoom c.in_ok-lanes.lanes.items c.next_lanes.new.lanes.rest.items (all_ready g c)
