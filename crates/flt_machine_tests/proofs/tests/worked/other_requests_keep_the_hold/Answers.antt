use Rattle.std.proofs.Common.{refl}
use Rattle.flt_machine_tests.proofs.tests.worked.other_requests_keep_the_hold.Goals as goal

pub returns : goal.returns
returns c = refl
