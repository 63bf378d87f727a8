use Rattle.std.proofs.Common.{arith, refl}
use Rattle.flt_live.proofs.worked.lives_follow.Goals as goal

pub returns : goal.returns
returns c = λ tells config start. record {
  first = refl;
  second = λ life. refl;
  last = λ lives many. omega (arith, many);
  before_last = λ lives many. omega (arith, many);
  joined = λ one two to passed. (passed.0.0, passed.0.5, passed.5);
  numbered = λ one two to passed. (passed.0.1, passed.1);
  powered = λ one two to passed. (passed.0.2, passed.2);
  found = λ one two to passed. (passed.4 refl).value;
}
