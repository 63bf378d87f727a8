use Rattle.std.proofs.Common.{refl}
use Rattle.flt_driver_tests.proofs.tests.worked.switch_costs.Goals as goal

pub returns : goal.returns
returns c = record { without = refl; with_switch = refl; larger_room = refl }
