use Rattle.std.proofs.Common.{◌≡◌, replicate}
use Rattle.flt_config.specs.Durable.{start_state}
use Rattle.flt_config.proofs.durable.put_untested.Given as goal

abbrev pub invariant-loop-made : goal.invariant-loop-made
invariant-loop-made l = l.events.items ≡ replicate l._made start_state
