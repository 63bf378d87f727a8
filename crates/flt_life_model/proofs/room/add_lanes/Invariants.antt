use Rattle.std.proofs.Common.{◌≡◌, ◌+◌, ◌++◌, take, map, All}
use Rattle.std.specs.Prelude.{vec_len}
use Rattle.flt_life_model.specs.Room.{IsLaneRoom, steps_of}
use Rattle.flt_life_model.proofs.room.add_lanes.Given as goal

abbrev pub invariant-loop-lane : goal.invariant-loop-lane
invariant-loop-lane l = record {
  lanes : steps_of l.rooms.items ≡ steps_of l.fn.rooms.items ++ map (λ lane. lane.items) (take l.lane-index l.lanes);
  len : vec_len l.rooms ≡ vec_len l.fn.rooms + l.lane-index;
  ready : All IsLaneRoom l.rooms.items;
}
