use Rattle.flt_script.proofs.OddEvents.{odd_events_are_refused}
use Rattle.flt_script.proofs.laws.odd_events_are_refused.Goals as goal

pub returns : goal.returns
returns c = odd_events_are_refused
