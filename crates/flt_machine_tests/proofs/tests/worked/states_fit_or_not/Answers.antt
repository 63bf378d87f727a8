use Rattle.std.proofs.Common.{◌≡◌, ◌<◌, refl, arith}
use Rattle.flt_machine_tests.proofs.tests.worked.states_fit_or_not.Goals as goal

pub returns : goal.returns
returns c = record {
  lit = record {
    status = omega arith;
    failed = omega arith;
    clean = omega arith;
    warning = (λ set. (refl, omega arith), λ on zero. (let wrong : 128 ≡ 0 = zero in omega (arith, wrong)));
    lit = λ on. (λ zero. (let wrong : 8 ≡ 0 = zero in omega (arith, wrong)), refl);
  };
  healed = record {
    status = omega arith;
    failed = omega arith;
    clean = omega arith;
    warning = (λ set. absurd (set refl), λ on. (let early : 3 < 3 = on.1 in absurd (omega (arith, early))));
    lit = λ on. (λ zero. (let wrong : 8 ≡ 0 = zero in omega (arith, wrong)), refl);
  };
  most_clean = record {
    status = omega arith;
    failed = omega arith;
    clean = omega arith;
    warning = (λ set. absurd (set refl), λ on. (let never = on.0 in absurd (cc (never))));
    lit = λ on. absurd (cc (on));
  };
  without_lamp = λ fits. (let never = (fits.lit refl).1 in cc (never));
  healed_without_lamp = λ fits. (let never = (fits.lit refl).1 in cc (never));
  unconfirmed = λ fits. (fits.lit refl).0 refl;
  no_warning = λ fits. fits.warning.1 (refl, omega arith) refl;
  late_warning = λ fits.
      (let early : 3 < 3 = (fits.warning.0 (λ zero. (let wrong : 128 ≡ 0 = zero in omega (arith, wrong)))).1 in omega (arith, early));
  unlit_warning = λ fits.
      (let never = (fits.warning.0 (λ zero. (let wrong : 128 ≡ 0 = zero in omega (arith, wrong)))).0 in cc (never));
  too_clean = λ fits. (let most = fits.clean in omega (arith, most));
}
