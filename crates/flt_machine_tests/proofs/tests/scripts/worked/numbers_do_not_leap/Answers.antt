use Rattle.std.proofs.Common.{arith}
use Rattle.flt_machine_tests.proofs.tests.scripts.worked.numbers_do_not_leap.Goals as goal

pub returns : goal.returns
returns c = record {
  next = ((omega arith, omega arith), tt);
  same = λ never. (let least = never.0.0 in omega (arith, least));
  leap = λ never. (let most = never.0.1 in omega (arith, most));
  failed = ((omega arith, omega arith), tt);
  failed_leap = λ never. (let most = never.0.1 in omega (arith, most));
}
