-- What a run came to, by whether lives of a script were made.
use Rattle.std.proofs.Common.{◌≡◌, Global, List, Option, None, Some, refl, subst}
use Rattle.std.specs.Prelude.{IfSome, Vec, option_map}
use Rattle.flt_flash.specs.Blocks.{device_of}
use Rattle.flt_config.specs.declared.config.DidUse.{DidUse}
use Rattle.flt_store_model.specs.Laws.{IsGiven}
use Rattle.flt_script.specs.Script.{ScriptContent}
use Rattle.flt_life_model.specs.declared.life.Life.{Life}
use Rattle.flt_life_model.specs.Lives.{lists}
use Rattle.flt_lives.specs.Devices.{LivesOn}
use Rattle.flt_run.specs.declared.command.Command.{Command}
use Rattle.flt_run.specs.declared.command.Command.TheVariants.{Run, Check, Load}
use Rattle.flt_run.specs.declared.ending.Ending.{Ending}
use Rattle.flt_run.specs.declared.ending.Ending.TheVariants.{Ran, Loaded}
use Rattle.flt_run.specs.declared.made.Made.{Made}
use Rattle.flt_run.specs.Scripted.{HasScript, ending_by}
use Rattle.flt_run.specs.Ending.{AreLived, ComesTo, EndingHasCause, RunInside, IsLivedBy, IsScriptOf, IsUntouched}

module _ (dids : List DidUse) (inside : RunInside) (command : Option Command) where
  -- No life was made.
  pub untouched : (ending : Option Ending) → IfSome ending (EndingHasCause dids inside command None) → IsUntouched inside → ComesTo dids inside command ending
  untouched ending ends same = record { script = None; works = tt; ends = ends; begun = tt; sound = same }

  -- Lives of a script were made, if memory did not run out.
  module _ (end : Made → Ending) (script : ScriptContent) (valid : IsGiven script.config) (lives : Option (Vec Life Global))
      (left : LivesOn (inside.media script.config) script.config (device_of inside.device) (device_of inside.device_after) script.lives lives)
      (cause : (one : Made) → IsLivedBy inside.media script inside.device inside.device_after one → EndingHasCause dids inside command (Some script) (end one)) where
    ends : (made : Option Made) → IfSome made (λ one. (lists one.script.items ≡ script.lives) × (lives ≡ Some one.lives))
        → IfSome (option_map end made) (EndingHasCause dids inside command (Some script))
    ends None is = tt
    ends (Some one) is =
        cause one record {
          script_is = is.0;
          valid = valid;
          lived = subst (λ lives. IfSome lives (λ lives. AreLived inside.media script inside.device inside.device_after lives.items)) is.1 left.lived;
        }

    pub lived : (made : Option Made) → IsScriptOf dids inside command script → IfSome made (λ one. (lists one.script.items ≡ script.lives) × (lives ≡ Some one.lives))
        → ComesTo dids inside command (option_map end made)
    lived made of is = record { script = Some script; works = (valid, of); ends = ends made is; begun = left.begun; sound = left.sound }

-- The lives of the script of a command were made, if memory did not run out.
module _ (dids : List DidUse) (inside : RunInside) (script : ScriptContent) (valid : IsGiven script.config) (lives : Option (Vec Life Global))
    (left : LivesOn (inside.media script.config) script.config (device_of inside.device) (device_of inside.device_after) script.lives lives) where
  pub performed : (command : Command) → HasScript dids inside command script → (made : Option Made)
      → IfSome made (λ one. (lists one.script.items ≡ script.lives) × (lives ≡ Some one.lives)) → ComesTo dids inside (Some command) (option_map (ending_by command) made)
  performed Run has = λ made. lived dids inside (Some Run) Ran script valid lives left (λ one is. (refl, has.0, is)) made has.1
  performed Check has = absurd has
  performed (Load count lanes) has = λ made. lived dids inside (Some (Load count lanes)) Loaded script valid lives left (λ one is. (count, lanes, refl, has.0, is)) made has.1
