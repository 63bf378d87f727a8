use Rattle.std.proofs.Common.{◌≡◌, drop}
use Rattle.std.specs.List.{find}
use Rattle.flt_config.specs.Ranges.{is_outside}
use Rattle.flt_config.proofs.setting.check_ranges.Given as goal

abbrev pub invariant-loop-one : goal.invariant-loop-one
invariant-loop-one l = find is_outside l.fn.checked ≡ find is_outside (drop l.one-index l.checked)
