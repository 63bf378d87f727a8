use Rattle.std.proofs.Common.{refl}
use Rattle.flt_machine_tests.proofs.tests.worked.ticks_leave_counters.Goals as goal

pub returns : goal.returns
returns c = refl
