use Rattle.flt_run.proofs.Lived.{can_live_handed, lived_handed}
use Rattle.flt_run.proofs.performing.live_in_lanes.Goals as goal

pub run_in_lanes-requires-clause-ready : goal.run_in_lanes-requires-clause-ready
run_in_lanes-requires-clause-ready g c = λ _ _. can_live_handed c.args.script.now _ c.deref.ensures.value _ c.requires.boots c.requires.unarmed

pub returns-clause-lives : goal.returns-clause-lives
returns-clause-lives g c = lived_handed c.args.script.now _ c.deref.ensures.value _ _ _ _ c.run_in_lanes.ensures
