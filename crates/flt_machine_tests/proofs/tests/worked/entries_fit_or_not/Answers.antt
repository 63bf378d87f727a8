use Rattle.std.proofs.Common.{◌≡◌, refl, arith}
use Rattle.flt_machine_tests.specs.FitExamples.{with_frames}
use Rattle.flt_machine_tests.proofs.tests.worked.entries_fit_or_not.Goals as goal

pub returns : goal.returns
returns c = record {
  least = record { event = omega arith; occurrence = (omega arith, omega arith); first = λ d. refl; recent = λ d. refl };
  most = record { event = omega arith; occurrence = (omega arith, omega arith); first = λ d. refl; recent = λ d. refl };
  none = λ fits. (let least = fits.occurrence.0 in omega (arith, least));
  too_many = λ fits. (let most = fits.occurrence.1 in omega (arith, most));
  no_event = λ fits. (let within = fits.event in omega (arith, within));
  short_first = λ fits. (let widths : 1 ≡ 2 = fits.first with_frames in omega (arith, widths));
  long_recent = λ fits. (let widths : 3 ≡ 2 = fits.recent with_frames in omega (arith, widths));
}
