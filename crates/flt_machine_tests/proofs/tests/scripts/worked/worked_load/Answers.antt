use Rattle.std.proofs.Common.{refl}
use Rattle.flt_script.specs.Load.{load_config, load_lane, load_number}
use Rattle.flt_machine_tests.proofs.tests.scripts.worked.worked_load.Goals as goal

pub returns : goal.returns
unfolding load_config load_lane load_number
returns c = record { config = refl; first = refl; last = refl; reports = refl }
