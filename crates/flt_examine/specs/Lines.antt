-- The line of the last of some lives.
use Rattle.std.specs.Prelude.{◌≡◌, ◌⊎◌, ◌<◌, ℕ, List, [], ◌∷◌, ◌++◌, All, IsUtf8, Ok, Some, IsTrue, length}
use Rattle.std.specs.List.{list_all}
use Rattle.serde_json.specs.Read.{read}
use Rattle.flt_config.specs.declared.config.Config.{Config}
use Rattle.flt_config.specs.declared.config.DidUse.{DidUse}
use Rattle.flt_config.specs.declared.persist.Persist.{Persist}
use Rattle.flt_config.specs.Durable.{Fits}
use Rattle.flt_script.specs.Script.{ScriptContent, script_of}
use Rattle.flt_step.specs.Step.{are_parts_in}
use Rattle.flt_turn.specs.Journal.{ops_of}
use Rattle.flt_life_model.specs.declared.life.Boot.TheVariants.{Started}
use Rattle.flt_life_model.specs.declared.life.Life.{Life}
use Rattle.flt_trace.specs.Trace.{Texts, trace_data, trace_line}
use Rattle.flt_trace.specs.Base.{IsBaseOf}
use Rattle.flt_trace.specs.Call.{AreCallTexts, CanBeMade}
use Rattle.flt_trace.specs.Answered.{answer_texts}

-- The last of these lives, and the state with which it was started.
pub record LastStarts (lives : List Life) (life : Life) (start : Persist) : Type 0 where
  pub earlier : List Life
  pub last : lives ≡ earlier ++ life ∷ []
  pub number : ℕ
  pub begun : life.boot ≡ Started number start

-- The state with which the last life was started fits.
abbrev pub LastFits : Config → List Life → Type 0
LastFits c lives = (life : Life) (start : Persist) → LastStarts lives life start → Fits c start

-- These texts are those of a life: of the bytes of its script, of the state with which it began, and of its calls and answers.
pub record AreTextsOf (c : Config) (bytes : List ℕ) (start : Persist) (life : Life) (texts : Texts) : Type 0 where
  pub script : texts.script ≡ bytes
  pub base : IsBaseOf c texts.base start
  pub journal : All (CanBeMade c) (ops_of life.journal.items) → AreCallTexts c life.journal.items texts.journal
  pub answers : texts.answers ≡ answer_texts life.journal.items life.replies.items

-- This is the line of such texts, which is read again.
pub record IsLineOf (c : Config) (bytes : List ℕ) (start : Persist) (life : Life) (line : List ℕ) : Type 0 where
  pub texts : Texts
  pub are : AreTextsOf c bytes start life texts
  pub printed : line ≡ trace_line texts
  pub utf8 : IsUtf8 line
  pub reads : read line ≡ Some (trace_data texts)

-- The line of the last life if it was started, and otherwise nothing.
abbrev pub IsLastLine : Config → List ℕ → List Life → List ℕ → Type 0
IsLastLine c bytes lives line =
    ((life : Life) × (start : Persist) × LastStarts lives life start × IsLineOf c bytes start life line)
    ⊎ (((life : Life) (start : Persist) → LastStarts lives life start → ⊥) × (line ≡ []))

-- The bytes are this script, which has a life, and whose steps are in their ranges.
pub record IsReadAs (dids : List DidUse) (bytes : List ℕ) (script : ScriptContent) : Type 0 where
  pub is : script_of dids bytes ≡ Ok script
  pub some : 0 < length script.lives
  pub within : IsTrue (list_all (are_parts_in script.config) script.lives)

-- The bytes are not a script.
abbrev pub IsNoScript : List DidUse → List ℕ → Type 0
IsNoScript dids bytes = (script : ScriptContent) → script_of dids bytes ≡ Ok script → ⊥
