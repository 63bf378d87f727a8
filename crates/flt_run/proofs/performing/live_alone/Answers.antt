use Rattle.flt_run.proofs.Lived.{can_live_handed, lived_handed}
use Rattle.flt_run.proofs.performing.live_alone.Goals as goal

pub run_alone-requires-clause-ready : goal.run_alone-requires-clause-ready
run_alone-requires-clause-ready g c = can_live_handed c.args.script.now _ c.deref.ensures.value _ c.requires.boots c.requires.unarmed

pub returns-clause-lives : goal.returns-clause-lives
returns-clause-lives g c = lived_handed c.args.script.now _ c.deref.ensures.value _ _ _ _ c.run_alone.ensures
