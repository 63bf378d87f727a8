use Rattle.std.proofs.Common.{◌∙◌, None, refl, ap}
use Rattle.flt_model.specs.Happening.{dtc_of_clear}
use Rattle.flt_dcm.proofs.AskedLemmas.{no_clear}
use Rattle.flt_dcm.proofs.DtcLemmas.{stands_uncleared}
use Rattle.flt_dcm.proofs.state.carry_out.Goals as goal

pub returns-in-Clear-clause-stands : goal.returns-in-Clear-clause-stands
returns-in-Clear-clause-stands c = λ life past tester sent clears s.
    c.clear.ensures.stands life past tester sent (clears ∙ ap dtc_of_clear c.in-Clear.is) s

pub returns-in_default : goal.returns-in_default
returns-in_default c = record {
  config = refl;
  session = c.after.ensures;
  stands = λ life past tester sent clears s.
      stands_uncleared life past c.args.dem.now s tester sent None (clears ∙ no_clear c.args.request c.in_default.not-Clear) tt;
}
