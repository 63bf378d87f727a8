use Rattle.std.proofs.Common.{refl}
use Rattle.flt_script.specs.Numeral.{hexadecimal, number, numeral, signed}
use Rattle.flt_machine_tests.proofs.tests.scripts.worked.numbers_have_ten_digits.Goals as goal

pub returns : goal.returns
unfolding hexadecimal number numeral signed
returns c = record {
  none = refl;
  ten = refl;
  eleven = refl;
  negative = refl;
  negative_eleven = refl;
  zero = refl;
  minus = refl;
  plus = refl;
  six = refl;
  five = refl;
}
