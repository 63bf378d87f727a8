-- A step in its ranges is possible, and one of a lane arms nothing.
use Rattle.std.proofs.Common.{◌≡◌, Bool, true, false, [], refl}
use Rattle.std.specs.Prelude.{if◌then◌else◌}
use Rattle.flt_config.specs.declared.config.Config.{Config}
use Rattle.flt_step.specs.Step.{is_lane_step, is_step_in}
use Rattle.flt_step.specs.declared.step.Step.{Step}
use Rattle.flt_life_model.specs.Actions.{action_of, arms_of}
use Rattle.flt_life_model.specs.declared.action.Action.{Action}
use Rattle.flt_life_model.specs.declared.action.Action.TheVariants as actions
use Rattle.flt_life_model.proofs.ByAction.{no_arms}
use Rattle.flt_life_model.proofs.PossibleSteps.{possible_step}
use Rattle.flt_live.specs.declared.line.Due.TheVariants as due
use Rattle.flt_live.specs.declared.line.Refusal.TheVariants.{Arm}
use Rattle.flt_live.specs.Due.{IsDueIn, step_due}
use Rattle.flt_live.specs.Made.{IsNoArm}

arms_nothing : (action : Action) → arms_of action ≡ [] → IsNoArm action
arms_nothing (actions.Call op) is = tt
arms_nothing (actions.Queue op) is = tt
arms_nothing actions.Save is = tt
arms_nothing actions.Drain is = tt
arms_nothing (actions.Get block) is = tt
arms_nothing (actions.Arm arm) is = absurd (cc is)

due_in : (c : Config) (step : Step) → is_step_in c step ≡ true → (b : Bool) → is_lane_step step ≡ b → IsDueIn c (if b then due.Make step else due.Refuse Arm)
due_in c step is true lane = (possible_step c step is, arms_nothing (action_of step) (no_arms step lane))
due_in c step is false lane = tt

pub step_in : (c : Config) (step : Step) → is_step_in c step ≡ true → IsDueIn c (step_due step)
step_in c step is = due_in c step is (is_lane_step step) refl
