use Rattle.std.proofs.Common.{◌≡◌, ◌++◌, map}
use Rattle.std.specs.List.{flat_map, range_with_len}
use Rattle.flt_script.specs.Load.{load_lane, plain_parts}
use Rattle.flt_step.specs.Part.{parts_of}
use Rattle.flt_script.proofs.loading.add_lanes.Given as goal

abbrev pub invariant-loop-lane : goal.invariant-loop-lane
invariant-loop-lane l =
    parts_of l.life.items ≡ parts_of l.initial.life.items ++ flat_map plain_parts (map (λ lane. load_lane l.count lane l.count) (range_with_len 0 l.lane))
