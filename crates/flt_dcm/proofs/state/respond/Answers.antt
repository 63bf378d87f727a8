use Rattle.flt_dcm.proofs.DtcLemmas.{stands_unknown}
use Rattle.flt_dcm.proofs.state.respond.Goals as goal

pub returns-in-Err-clause-stands : goal.returns-in-Err-clause-stands
returns-in-Err-clause-stands c = λ life past tester sent clears s.
    stands_unknown life past c.args.dem.now s tester sent c.args.asked.request clears c.in-Err.ensures.unknown
