use Rattle.std.proofs.Common.{refl}
use Rattle.flt_did.specs.Table.{dids_of}
use Rattle.flt_run.proofs.performing.script_for.Goals as goal

pub returns-in-Load : goal.returns-in-Load
returns-in-Load g c = rw c.in-Load.is (c.loaded.ensures (dids_of c.args.dids.now), refl, refl)
