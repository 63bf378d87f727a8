use Rattle.std.proofs.Common.{◌≡◌, ◌++◌, ◌+◌, ◌≤◌, length, map}
use Rattle.std.specs.Prelude.{vec_len}
use Rattle.std.specs.Vec.{vec_capacity}
use Rattle.flt_life_model.specs.Played.{dark_answers}
use Rattle.flt_life_model.specs.Room.{steps_of, told_in}
use Rattle.flt_lives.proofs.dark.take_dark_lanes.Given as goal

abbrev pub invariant-loop-lane : goal.invariant-loop-lane
invariant-loop-lane l = record {
  all : l.yielded ++ l.lane-iterator.rest.items ≡ l.fn.lanes.items;
  told : map told_in l.told.items ≡ map dark_answers (steps_of l.yielded);
  room : vec_len l.told + length l.lane-iterator.rest.items ≤ vec_capacity l.told;
}
