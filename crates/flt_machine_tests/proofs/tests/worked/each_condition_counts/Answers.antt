use Rattle.std.proofs.Common.{refl}
use Rattle.flt_machine_tests.proofs.tests.worked.each_condition_counts.Goals as goal

pub returns : goal.returns
returns c = refl
