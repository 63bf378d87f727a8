use Rattle.std.proofs.Common.{refl}
use Rattle.flt_driver_tests.proofs.tests.worked.next_writes.Goals as goal

pub returns : goal.returns
returns c = record { places = refl; sequences = refl }
