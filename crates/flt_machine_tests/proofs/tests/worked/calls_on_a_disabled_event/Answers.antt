use Rattle.std.proofs.Common.{refl}
use Rattle.flt_machine_tests.proofs.tests.worked.calls_on_a_disabled_event.Goals as goal

pub returns : goal.returns
returns c = record {
  through = (refl, (refl, tt));
  same = refl;
  own_cycle = λ never. (let some = never.0 in absurd (cc (some)));
  other_cycle = (refl, (refl, (refl, tt)));
}
