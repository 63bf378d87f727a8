use Rattle.std.proofs.Common.{◌≡◌, map}
use Rattle.std.specs.List.{range_with_len}
use Rattle.flt_script.specs.Load.{load_lane}
use Rattle.flt_script.proofs.InMemory.{steps_of_lanes}
use Rattle.flt_script.proofs.loading.load_lanes.Given as goal

abbrev pub invariant-loop-lane : goal.invariant-loop-lane
invariant-loop-lane l = steps_of_lanes l.lanes.items ≡ map (λ lane. load_lane l.count lane l.count) (range_with_len 0 l.lane)
