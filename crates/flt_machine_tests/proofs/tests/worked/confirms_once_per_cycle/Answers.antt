use Rattle.std.proofs.Common.{refl}
use Rattle.flt_machine_tests.proofs.tests.worked.confirms_once_per_cycle.Goals as goal

pub returns : goal.returns
returns c = refl
