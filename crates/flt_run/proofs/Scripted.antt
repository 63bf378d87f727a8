-- What follows from the script of a command, or from why there is none.
use Rattle.std.proofs.Common.{◌≡◌, List, None, Some, refl}
use Rattle.flt_config.specs.declared.config.DidUse.{DidUse}
use Rattle.flt_did.specs.Serves.{Serves}
use Rattle.flt_script.specs.declared.fault.ScriptFault.{ScriptFault}
use Rattle.flt_script.specs.declared.fetching.Fetched.{Fetched}
use Rattle.flt_script.specs.declared.fetching.Fetched.TheVariants as fetched
use Rattle.flt_script.specs.declared.script.Script.{Script}
use Rattle.flt_script.specs.Script.{content}
use Rattle.flt_run.specs.declared.command.Command.{Command}
use Rattle.flt_run.specs.declared.command.Command.TheVariants.{Run, Check, Load}
use Rattle.flt_run.specs.declared.ending.Ending.TheVariants.{Refused, Unreadable, Accepted}
use Rattle.flt_run.specs.declared.ending.Ending.{Ending}
use Rattle.flt_run.specs.declared.ending.Ending.TheVariants as endings
use Rattle.flt_run.specs.Ending.{EndingHasCause, RunInside, TellsAccepted, IsUntouched}
use Rattle.flt_run.specs.Scripted.{HasScript, IsScriptFor}

module _ (dids : List DidUse) (inside : RunInside) where
  -- It is the script of a command, or why there is none.
  abbrev pub For : Command → Fetched → Type 0
  For = IsScriptFor dids inside.left inside.left_after inside.read_faults inside.read_faults_after

  pub served_for : (command : Command) (script : Script) → For command (fetched.Script script) → Serves dids script.config.events.items
  served_for Run script is = is.2
  served_for Check script is = is.2
  served_for (Load count lanes) script is = is.0.1

  pub has_script : (command : Command) (script : Script) → (command ≡ Check → ⊥) → For command (fetched.Script script) → HasScript dids inside command (content script)
  has_script Run script other is = (is.0, is.1)
  has_script Check script other is = absurd (other refl)
  has_script (Load count lanes) script other is = (record { left = is.1; faults = is.2 }, is.0.0)

  pub refused : (command : Command) (fault : ScriptFault) → IsUntouched inside → For command (fetched.Refused fault)
      → EndingHasCause dids inside (Some command) None (Refused fault)
  refused Run fault same is = (refl, is.0, is.1, (refl, same))
  refused Check fault same is = (refl, is.0, is.1, (refl, same))
  refused (Load count lanes) fault same is = absurd is.0

  pub unreadable : (command : Command) → IsUntouched inside → For command fetched.Failed → EndingHasCause dids inside (Some command) None Unreadable
  unreadable Run same is = (refl, is, (refl, same))
  unreadable Check same is = (refl, is, (refl, same))
  unreadable (Load count lanes) same is = absurd is.0

  pub accepted : (script : Script) (ending : Ending) → TellsAccepted (content script) ending → IsUntouched inside → For Check (fetched.Script script)
      → EndingHasCause dids inside (Some Check) None ending
  accepted script (Accepted line) text same is = (refl, is.0, (content script, is.1, text), (refl, same))
  accepted script endings.Usage text same is = absurd text
  accepted script endings.Unreadable text same is = absurd text
  accepted script (Refused fault) text same is = absurd text
  accepted script (endings.Ran made) text same is = absurd text
  accepted script (endings.Loaded made) text same is = absurd text
