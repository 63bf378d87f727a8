use Rattle.std.proofs.Common.{◌≡◌, ◌++◌, ◌∷◌, ◌+◌, ◌≤◌, length}
use Rattle.std.specs.Prelude.{vec_len}
use Rattle.std.specs.Vec.{vec_capacity}
use Rattle.flt_life_model.proofs.room.life_of.Given as goal

abbrev pub invariant-loop-lane : goal.invariant-loop-lane
invariant-loop-lane l = record {
  all : l.yielded ++ l.lane-iterator.rest.items ≡ l.fn.told.items;
  items : l.replies.items ≡ l.fn.own ∷ l.yielded;
  room : vec_len l.replies + length l.lane-iterator.rest.items ≤ vec_capacity l.replies;
}
