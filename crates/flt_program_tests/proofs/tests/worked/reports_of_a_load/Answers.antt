use Rattle.std.proofs.Common.{refl}
use Rattle.flt_script.specs.Numeral.{number, numeral}
use Rattle.flt_program.specs.Words.{count_of, load_of}
use Rattle.flt_program_tests.proofs.tests.worked.reports_of_a_load.Goals as goal

pub returns : goal.returns
unfolding count_of load_of number numeral
returns c = record { counts = refl; plain = refl; lanes = refl; neither = refl; words = refl }
