use Rattle.std.proofs.Common.{refl}
use Rattle.flt_machine_tests.proofs.tests.worked.values_of_identifiers.Goals as goal

pub returns : goal.returns
returns c = record { bits = refl; values = refl }
