use Rattle.std.proofs.Common.{◌≡◌, take}
use Rattle.flt_life_model.specs.Room.{sizes_of}
use Rattle.flt_life_model.proofs.room.lane_room.Given as goal

abbrev pub invariant-loop-step : goal.invariant-loop-step
invariant-loop-step l = l.bytes ≡ sizes_of (take l.step-index l.steps)
