-- A call of a journal as its text: the number of its lane, a space, and the call.
use Rattle.std.specs.Prelude.{◌≡◌, ◌⊎◌, ◌≤◌, ◌==◌, ℕ, Bool, IsTrue, length, ◌^◌, ◌<◌, List, [], ◌∷◌, ◌++◌, Option, Some, None, codes}
use Rattle.std.specs.Fmt.{decimal}
use Rattle.flt_config.specs.declared.TheConstants.{EVENTS}
use Rattle.flt_config.specs.declared.config.Config.{Config}
use Rattle.flt_model.specs.declared.call.Op.{Op}
use Rattle.flt_model.specs.declared.call.Op.TheVariants.{Snapshot, Saved}
use Rattle.flt_model.specs.declared.call.Op.TheVariants as ops
use Rattle.flt_turn.specs.declared.vault.Entry.{Entry}
use Rattle.flt_step.specs.declared.step.Step.{Step}
use Rattle.flt_step.specs.declared.step.Step.TheVariants as steps
use Rattle.flt_script.specs.Alone.{step_in}
use Rattle.flt_step.specs.Step.{is_step_in}
use Rattle.flt_step.specs.Words.{step_text, with_number}
use Rattle.flt_life_model.specs.declared.action.Action.TheVariants.{Call}
use Rattle.flt_life_model.specs.Actions.{action_of}

-- This is the text of a step that makes this call: as the step is printed, and read by the grammar as that step within the configuration.
pub record IsOfStep (c : Config) (op : Op) (text : List ℕ) : Type 0 where
  pub step : Step
  pub reads : step_in c text ≡ Some step
  pub printed : text ≡ step_text step
  pub calls : action_of step ≡ Call op

-- This is the text of a save's acknowledgement: a word and the number that was saved.
pub record IsOfSaved (op : Op) (text : List ℕ) : Type 0 where
  pub number : ℕ
  pub within : number < 2 ^ 32
  pub calls : op ≡ Saved number
  pub printed : text ≡ with_number (codes "saved") number

-- This is the text of a call that a save makes: of a snapshot one word, or that of its acknowledgement.
abbrev pub IsOfSave : Op → List ℕ → Type 0
IsOfSave op text = ((op ≡ Snapshot) × (text ≡ codes "snapshot")) ⊎ IsOfSaved op text

-- This is the text of a call: that of its step, or of what a save makes.
abbrev pub IsOpText : Config → Op → List ℕ → Type 0
IsOpText c op text = IsOfStep c op text ⊎ IsOfSave op text

-- What is between the lane and the call.
abbrev pub is_space : ℕ → Bool
is_space byte = byte == 32

-- This is the text of a call of a lane.
pub record IsCallText (c : Config) (call : Entry Op) (text : List ℕ) : Type 0 where
  pub lane : call.lane < 2 ^ 32
  pub words : List ℕ
  pub op : IsOpText c call.op words
  pub printed : text ≡ decimal call.lane ++ 32 ∷ words

-- These are the texts of calls, one each.
abbrev pub AreCallTexts : Config → List (Entry Op) → List (List ℕ) → Type 0
AreCallTexts c [] [] = Unit {0}
AreCallTexts c [] (text ∷ texts) = ⊥
AreCallTexts c (call ∷ calls) [] = ⊥
AreCallTexts c (call ∷ calls) (text ∷ texts) = IsCallText c call text × AreCallTexts c calls texts

-- The step that makes a call; none makes those of a save.
abbrev pub step_making : Op → Option Step
step_making (ops.Report event report) = Some (steps.Report event report)
step_making (ops.Show event) = Some (steps.Show event)
step_making (ops.Cycle cycle) = Some (steps.Cycle cycle)
step_making (ops.Tick ticks) = Some (steps.Tick ticks)
step_making (ops.Signal index value) = Some (steps.Signal index value)
step_making (ops.Enable condition fulfilled) = Some (steps.Enable condition fulfilled)
step_making (ops.Request tester bytes) = Some (steps.Request tester bytes)
step_making Snapshot = None
step_making (Saved number) = None

-- A call that a save makes.
abbrev pub IsSaveCall : Op → Type 0
IsSaveCall Snapshot = Unit {0}
IsSaveCall (Saved number) = Unit {0}
IsSaveCall _ = ⊥

-- A step makes this call, whose numbers are in their ranges under the configuration.
pub record HasStep (c : Config) (op : Op) : Type 0 where
  pub events : length c.events.items ≤ EVENTS
  pub step : Step
  pub calls : action_of step ≡ Call op
  pub within : IsTrue (is_step_in c step)

-- A call that a step or a save may make.
abbrev pub CanBeMade : Config → Op → Type 0
CanBeMade c op = IsSaveCall op ⊎ HasStep c op
