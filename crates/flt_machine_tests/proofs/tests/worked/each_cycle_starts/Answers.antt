use Rattle.std.proofs.Common.{refl}
use Rattle.flt_machine_tests.proofs.tests.worked.each_cycle_starts.Goals as goal

pub returns : goal.returns
returns c = refl
