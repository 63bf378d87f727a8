use Rattle.std.proofs.Common.{refl}
use Rattle.flt_machine_tests.proofs.tests.worked.tending_failure_qualifies_again.Goals as goal

pub returns : goal.returns
returns c = refl
