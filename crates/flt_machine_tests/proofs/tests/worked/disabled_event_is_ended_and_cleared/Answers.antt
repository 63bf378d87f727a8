use Rattle.std.proofs.Common.{refl}
use Rattle.flt_machine_tests.proofs.tests.worked.disabled_event_is_ended_and_cleared.Goals as goal

pub returns : goal.returns
returns c = refl
