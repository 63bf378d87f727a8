use Rattle.std.proofs.Common.{refl}
use Rattle.flt_machine_tests.proofs.tests.worked.each_form_of_a_setting.Goals as goal

pub returns : goal.returns
returns c = refl
