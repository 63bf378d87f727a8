use Rattle.std.proofs.Common.{refl}
use Rattle.flt_machine_tests.proofs.tests.scripts.worked.starts_end_at_their_own_arm.Goals as goal

pub returns : goal.returns
returns c = λ arm. record { second = refl; third = refl }
