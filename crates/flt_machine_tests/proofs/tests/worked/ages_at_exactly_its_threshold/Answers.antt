use Rattle.std.proofs.Common.{refl}
use Rattle.flt_machine_tests.proofs.tests.worked.ages_at_exactly_its_threshold.Goals as goal

pub returns : goal.returns
returns c = refl
