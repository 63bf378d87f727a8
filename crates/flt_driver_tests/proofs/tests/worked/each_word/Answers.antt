use Rattle.std.proofs.Common.{refl}
use Rattle.flt_code.specs.Word.{word_bytes, candidate, word_of}
use Rattle.flt_driver_tests.proofs.tests.worked.each_word.Goals as goal

pub returns : goal.returns
unfolding word_bytes candidate word_of
returns c = record { written = refl; read = refl; refused = refl }
