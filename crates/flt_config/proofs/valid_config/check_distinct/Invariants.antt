use Rattle.std.proofs.Common.{◌≡◌, take, drop}
use Rattle.flt_config.specs.Check.{distinct_result, distinct_behind}
use Rattle.flt_config.proofs.valid_config.check_distinct.Given as goal

abbrev pub invariant-loop-second : goal.invariant-loop-second
invariant-loop-second l = distinct_result l.events ≡ distinct_behind (take l.second l.events) (drop l.second l.events)
