use Rattle.std.proofs.Common.{refl, arith}
use Rattle.flt_machine_tests.proofs.tests.scripts.worked.drains_do_not_stop_early.Goals as goal

pub returns : goal.returns
returns c = record {
  early = λ never. (omega (arith, never));
  full = refl;
  empty = (omega arith, (5, refl), refl);
  beyond = λ never. (let few = never.0 in omega (arith, few));
}
