use Rattle.std.proofs.Common.{refl}
use Rattle.flt_machine_tests.proofs.tests.worked.lists_of_many_dtcs.Goals as goal

pub returns : goal.returns
returns c = refl
