-- What a trace describes: a configuration, the state with which a life of it began, and the calls of that life.
use Rattle.std.specs.Prelude.{◌≡◌, List, length, Ok}
use Rattle.flt_config.specs.declared.config.Config.{Config}
use Rattle.flt_config.specs.declared.config.DidUse.{DidUse}
use Rattle.flt_config.specs.declared.persist.Persist.{Persist}
use Rattle.flt_model.specs.declared.call.Op.{Op}
use Rattle.flt_turn.specs.declared.vault.Entry.{Entry}
use Rattle.flt_script.specs.Script.{ScriptContent, script_of}
use Rattle.flt_trace.specs.Trace.{Texts}
use Rattle.flt_trace.specs.Base.{IsBaseOf}
use Rattle.flt_trace.specs.Call.{AreCallTexts}

-- A life under a configuration: the state with which it began, and its calls in their order.
pub record ToldLife : Type 0 where
  pub config : Config
  pub base : Persist
  pub journal : List (Entry Op)

-- These texts describe this life, and have an answer for each call.
pub record TellsLife (dids : List DidUse) (texts : Texts) (told : ToldLife) : Type 0 where
  pub script : ScriptContent
  pub reads : script_of dids texts.script ≡ Ok script
  pub config : script.config ≡ told.config
  pub base : IsBaseOf told.config texts.base told.base
  pub journal : AreCallTexts told.config told.journal texts.journal
  pub answers : length texts.answers ≡ length texts.journal
