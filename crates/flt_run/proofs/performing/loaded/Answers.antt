use Rattle.std.proofs.Common.{subst, sym}
use Rattle.flt_did.specs.Serves.{Serves}
use Rattle.flt_script.specs.Script.{ScriptContent}
use Rattle.flt_run.proofs.Loaded.{served_load}
use Rattle.flt_run.proofs.performing.loaded.Goals as goal

pub returns-in-Ok : goal.returns-in-Ok
returns-in-Ok c = λ dids. (c.in-Ok.ensures, subst (λ (script : ScriptContent). Serves dids script.config.events.items) (sym c.in-Ok.ensures) (served_load dids))
