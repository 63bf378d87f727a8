use Rattle.std.proofs.Common.{◌∙◌, sym}
use Rattle.flt_dcm.proofs.DtcLemmas.{found_event, no_event_found}
use Rattle.flt_dcm.proofs.response.event_of.Goals as goal

pub returns-in-Some-clause-known : goal.returns-in-Some-clause-known
returns-in-Some-clause-known c = found_event c.args.dem.now c.args.dtc c.in-Some.event (sym c.find.ensures ∙ c.in-Some.is)

pub returns-in-None-clause-unknown : goal.returns-in-None-clause-unknown
returns-in-None-clause-unknown c = no_event_found c.args.dem.now c.args.dtc (sym c.find.ensures ∙ c.in-None.is)
