-- What a watch is asked: which scripts it makes.
use Rattle.std.specs.Prelude.{◌==◌, ◌&&◌, ℕ, Bool, true, false, List, Option, length, IsTrue, IsFalse}
use Rattle.std.specs.List.{list_all}
use Rattle.std.specs.Io.KnownBytes.{IsAtEnd}
use Rattle.std.proofs.Common.{inl, inr}
use Rattle.flt_io.specs.Fault.{Rose}
use Rattle.flt_config.specs.declared.config.DidUse.{DidUse}
use Rattle.flt_did.specs.Serves.{Serves}
use Rattle.flt_step.specs.declared.step.Step.{Step}
use Rattle.flt_step.specs.Part.{PartOf}
use Rattle.flt_script.specs.Script.{ScriptContent, content}
use Rattle.flt_life_model.specs.declared.action.Action.{Action}
use Rattle.flt_life_model.specs.declared.action.Action.TheVariants.{Call}
use Rattle.flt_life_model.specs.Actions.{action_of}
use Rattle.flt_script.specs.Fetched.{AreNoScript, AreScript, HasLostRead}
use Rattle.flt_watch.specs.declared.asking.Asked.{Asked}
use Rattle.flt_watch.specs.declared.asking.Asked.TheVariants.{Watch, Other, Refused, Unread, Memory}

-- A watch makes what calls the status machine, and nothing that touches the store, the write jobs or the device.
abbrev pub is_call : Action → Bool
is_call (Call op) = true
is_call _ = false

-- So it makes a step that makes such a call.
abbrev pub is_watched : Step → Bool
is_watched step = is_call (action_of step)

-- Each step of a part is such.
abbrev pub is_watched_part : PartOf Step → Bool
is_watched_part (inl step) = is_watched step
is_watched_part (inr lanes) = list_all (λ lane. list_all is_watched lane) lanes

-- Each step of these parts is.
abbrev pub are_watched : List (PartOf Step) → Bool
are_watched parts = list_all is_watched_part parts

-- Each step of these lives is.
abbrev pub all_watched : List (List (PartOf Step)) → Bool
all_watched lives = list_all are_watched lives

-- A script that a watch makes: it has one life, of such steps.
abbrev pub is_watchable : ScriptContent → Bool
is_watchable script = (length script.lives == 1) && all_watched script.lives

-- The source was read to this, from what it had left and its count of faults to those after.
abbrev pub IsAsked : List DidUse → Option (List ℕ) → Option (List ℕ) → ℕ → ℕ → Asked → Type 0
IsAsked dids left after faults faults_after (Watch script) = IsAtEnd after × AreScript dids left (content script) × IsTrue (is_watchable (content script))
    × Serves dids script.config.events.items
IsAsked dids left after faults faults_after Other = IsAtEnd after × ((script : ScriptContent) × AreScript dids left script × IsFalse (is_watchable script))
IsAsked dids left after faults faults_after (Refused fault) = HasLostRead left after × AreNoScript dids left fault
IsAsked dids left after faults faults_after Unread = Rose faults faults_after
IsAsked dids left after faults faults_after Memory = Unit {0}
