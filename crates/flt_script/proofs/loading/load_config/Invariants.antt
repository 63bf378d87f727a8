use Rattle.std.proofs.Common.{◌≡◌, map}
use Rattle.std.specs.List.{range_with_len}
use Rattle.flt_script.specs.Load.{load_event}
use Rattle.flt_script.proofs.loading.load_config.Given as goal

abbrev pub invariant-loop-number : goal.invariant-loop-number
invariant-loop-number l = l.events.items ≡ map load_event (range_with_len 0 l.number)
