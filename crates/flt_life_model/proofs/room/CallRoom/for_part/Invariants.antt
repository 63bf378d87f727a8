use Rattle.std.proofs.Common.{◌≡◌, take, map}
use Rattle.std.specs.Prelude.{sum_by}
use Rattle.flt_life_model.specs.Parts.{calls_of, queued_of}
use Rattle.flt_life_model.proofs.room.CallRoom.for_part.Given as goal

abbrev pub invariant-loop-lane : goal.invariant-loop-lane
invariant-loop-lane l = record {
  machine : l.room.machine ≡ sum_by calls_of (map (λ lane. lane.items) (take l.lane-index l.lane-items));
  queue : l.room.queue ≡ sum_by queued_of (map (λ lane. lane.items) (take l.lane-index l.lane-items));
}
