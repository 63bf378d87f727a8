-- What is to be done at a line, and how a line is answered that makes no step.
use Rattle.std.specs.Prelude.{ℕ, List, ◌∷◌, [], ◌++◌, codes, Result, Ok, Err, if◌then◌else◌}
use Rattle.flt_config.specs.declared.config.Config.{Config}
use Rattle.flt_script.specs.Alone.{alone_in}
use Rattle.flt_script.specs.declared.alone.AloneLine.{AloneLine}
use Rattle.flt_script.specs.declared.alone.AloneLine.TheVariants as alone
use Rattle.flt_script.specs.declared.fault.LineCause.{LineCause}
use Rattle.flt_script.specs.declared.fault.LineCause.TheVariants.{Large, Long, Byte, Word, Form, Order, Range, Many, Block, Did, Config as OfConfig}
use Rattle.flt_step.specs.declared.step.Step.{Step}
use Rattle.flt_step.specs.Step.{is_lane_step}
use Rattle.flt_life_model.specs.Actions.{IsPossible, action_of}
use Rattle.flt_live.specs.Made.{IsNoArm}
use Rattle.flt_live.specs.declared.line.Due.{Due}
use Rattle.flt_live.specs.declared.line.Due.TheVariants as due
use Rattle.flt_live.specs.declared.line.Refusal.{Refusal}
use Rattle.flt_live.specs.declared.line.Refusal.TheVariants.{Cause, Arm}

-- A step is made, unless it arms the bench, as no step of a lane does.
abbrev pub step_due : Step → Due
step_due step = if is_lane_step step then due.Make step else due.Refuse Arm

-- A step is possible, and arms nothing.
abbrev pub IsDueIn : Config → Due → Type 0
IsDueIn c due.Nothing = Unit {0}
IsDueIn c (due.Refuse refusal) = Unit {0}
IsDueIn c (due.Make step) = IsPossible c (action_of step) × IsNoArm (action_of step)
IsDueIn c due.Power = Unit {0}

-- By what the line says.
abbrev pub due_by : Result AloneLine LineCause → Due
due_by (Ok alone.Skipped) = due.Nothing
due_by (Ok (alone.Step step)) = step_due step
due_by (Ok alone.Power) = due.Power
due_by (Err cause) = due.Refuse (Cause cause)

-- At a line of this text.
abbrev pub due_at : Config → List ℕ → Due
due_at c text = due_by (alone_in c text)

-- Why a line is refused. A line by itself has no fault of the configuration as a whole.
abbrev pub refusal_word : Refusal → List ℕ
refusal_word Arm = codes "arm"
refusal_word (Cause Large) = codes "large"
refusal_word (Cause Long) = codes "long"
refusal_word (Cause Byte) = codes "byte"
refusal_word (Cause Word) = codes "word"
refusal_word (Cause Form) = codes "form"
refusal_word (Cause Order) = codes "order"
refusal_word (Cause Range) = codes "range"
refusal_word (Cause Many) = codes "many"
refusal_word (Cause Block) = codes "block"
refusal_word (Cause Did) = codes "did"
refusal_word (Cause (OfConfig fault)) = codes "config"

abbrev pub refusal_line : Refusal → List ℕ
refusal_line refusal = codes "refused " ++ refusal_word refusal ++ 10 ∷ []
