-- The script of which a command makes lives, and how a run of it ends.
use Rattle.std.specs.Prelude.{◌≡◌, ℕ, Bool, List, Option}
use Rattle.std.specs.Io.KnownBytes.{IsAtEnd}
use Rattle.flt_config.specs.declared.config.DidUse.{DidUse}
use Rattle.flt_did.specs.Serves.{Serves}
use Rattle.flt_script.specs.declared.fetching.Fetched.{Fetched}
use Rattle.flt_script.specs.declared.fetching.Fetched.TheVariants.{Script, Refused, Failed, Memory}
use Rattle.flt_script.specs.Fetched.{AreScript, IsFetched}
use Rattle.flt_script.specs.Load.{load_script}
use Rattle.flt_script.specs.Script.{ScriptContent, content}
use Rattle.flt_run.specs.declared.command.Command.{Command}
use Rattle.flt_run.specs.declared.command.Command.TheVariants.{Run, Check, Load}
use Rattle.flt_run.specs.declared.ending.Ending.{Ending}
use Rattle.flt_run.specs.declared.ending.Ending.TheVariants.{Ran, Loaded}
use Rattle.flt_run.specs.declared.made.Made.{Made}
use Rattle.flt_run.specs.Ending.{RunInside, IsRunUnread}

-- A command has this script: that of the bytes, which were read to their end, or that of a load, for which nothing was read.
abbrev pub HasScript : List DidUse → RunInside → Command → ScriptContent → Type 0
HasScript dids inside Run script = IsAtEnd inside.left_after × AreScript dids inside.left script
HasScript dids inside Check script = ⊥
HasScript dids inside (Load count lanes) script = IsRunUnread inside × (script ≡ load_script count lanes)

-- The script of a load, which the table serves, unless memory ran out.
abbrev pub IsLoaded : List DidUse → ℕ → Bool → Fetched → Type 0
IsLoaded dids count lanes (Script script) = (content script ≡ load_script count lanes) × Serves dids script.config.events.items
IsLoaded dids count lanes (Refused fault) = ⊥
IsLoaded dids count lanes Failed = ⊥
IsLoaded dids count lanes Memory = Unit {0}

-- The script of a command, or why there is none, by what a source had left and its count of faults, before and after: a load reads nothing.
abbrev pub IsScriptFor : List DidUse → Option (List ℕ) → Option (List ℕ) → ℕ → ℕ → Command → Fetched → Type 0
IsScriptFor dids left after faults later Run fetched = IsFetched dids left after faults later fetched
IsScriptFor dids left after faults later Check fetched = IsFetched dids left after faults later fetched
IsScriptFor dids left after faults later (Load count lanes) fetched = IsLoaded dids count lanes fetched × (after ≡ left) × (later ≡ faults)

-- How a command ends that made these lives; a check makes none.
abbrev pub ending_by : Command → Made → Ending
ending_by Run made = Ran made
ending_by Check made = Ran made
ending_by (Load count lanes) made = Loaded made
