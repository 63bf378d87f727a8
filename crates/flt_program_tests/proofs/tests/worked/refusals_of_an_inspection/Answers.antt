use Rattle.std.proofs.Common.{refl}
use Rattle.std.specs.Fmt.{digits}
use Rattle.flt_program_tests.proofs.tests.worked.refusals_of_an_inspection.Goals as goal

pub returns : goal.returns
unfolding digits
returns c = record { script = refl; other = refl; page = refl; unread = refl; large = refl; usage = refl }
