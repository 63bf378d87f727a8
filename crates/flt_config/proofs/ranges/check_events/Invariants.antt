use Rattle.std.proofs.Common.{◌≡◌, drop}
use Rattle.flt_config.specs.Ranges.{events_settings, ranges_result}
use Rattle.flt_config.proofs.ranges.check_events.Given as goal

abbrev pub invariant-loop-number : goal.invariant-loop-number
invariant-loop-number l =
    ranges_result (events_settings 0 l.events) ≡ ranges_result (events_settings l.number (drop l.number l.events))
