use Rattle.std.proofs.Common.{◌+◌}
use Rattle.flt_script.specs.Load.{load_number}
use Rattle.flt_script.proofs.Loads.{number_more}
use Rattle.flt_script.proofs.loading.first_number.Goals as goal

pub loop-place-init : goal.loop-place-init
unfolding load_number
loop-place-init c = c.next_number-number.ensures

pub loop-place-preserved : goal.loop-place-preserved
loop-place-preserved c = number_more c.args.count (c.loop-place._place + 1) c.loop-place.number _ c.loop-place.invariant c.next_number-number-in-loop-place.ensures
