use Rattle.std.proofs.Common.{◌≡◌, drop}
use Rattle.flt_config.specs.Ranges.{did_width_settings, ranges_result}
use Rattle.flt_config.proofs.ranges.check_did_widths.Given as goal

abbrev pub invariant-loop-did : goal.invariant-loop-did
invariant-loop-did l =
    ranges_result (did_width_settings l.number l.fn.dids) ≡ ranges_result (did_width_settings l.number (drop l.did-index l.dids))
