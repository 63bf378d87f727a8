use Rattle.std.proofs.Common.{refl}
use Rattle.flt_driver_tests.proofs.tests.worked.muted_units.Goals as goal

pub returns : goal.returns
returns c = refl
