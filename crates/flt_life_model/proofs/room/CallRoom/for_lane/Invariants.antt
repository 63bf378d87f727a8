use Rattle.std.proofs.Common.{◌≡◌, take}
use Rattle.flt_life_model.specs.Parts.{calls_of, queued_of}
use Rattle.flt_life_model.proofs.room.CallRoom.for_lane.Given as goal

abbrev pub invariant-loop-step : goal.invariant-loop-step
invariant-loop-step l = record {
  machine : l.room.machine ≡ calls_of (take l.step-index l.steps);
  queue : l.room.queue ≡ queued_of (take l.step-index l.steps);
}
