use Rattle.std.proofs.Common.{refl}
use Rattle.flt_machine_tests.proofs.tests.scripts.worked.dark_life_arms.Goals as goal

pub returns : goal.returns
returns c = record { armed = λ arm. refl; drained = refl }
