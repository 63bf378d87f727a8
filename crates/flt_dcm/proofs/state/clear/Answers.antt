use Rattle.std.proofs.Common.{◌∙◌, Some, sym, ap}
use Rattle.flt_model.specs.declared.request.Request.TheVariants.{Clear}
use Rattle.flt_dcm.proofs.DtcLemmas.{dtc_of_event, stands_unknown}
use Rattle.flt_dcm.proofs.state.clear.Goals as goal

pub returns-then-dtc-eq-ALL_DTCS-clause-stands : goal.returns-then-dtc-eq-ALL_DTCS-clause-stands
returns-then-dtc-eq-ALL_DTCS-clause-stands c = λ life past tester sent clears s.
    c.clear_all.ensures.stands life past tester sent (clears ∙ ap Some c.if-dtc-eq-ALL_DTCS.true) s

pub returns-in-Some-clause-stands : goal.returns-in-Some-clause-stands
returns-in-Some-clause-stands c = λ life past tester sent clears s.
    c.clear_one.ensures.stands life past tester sent
    (clears ∙ ap Some (dtc_of_event life past c.args.dem.now s c.args.dtc c.in-Some.event (sym c.find.ensures ∙ c.in-Some.is))) s

pub returns-in-None-clause-stands : goal.returns-in-None-clause-stands
returns-in-None-clause-stands c = λ life past tester sent clears s.
    stands_unknown life past c.args.dem.now s tester sent (Clear c.args.dtc) clears (c.if-dtc-eq-ALL_DTCS.false, sym c.find.ensures ∙ c.in-None.is)
