-- What is known of a step by what it does. The kinds of steps are distinguished here alone.
use Rattle.std.proofs.Common.{◌≡◌, ℕ, Bool, true, false, [], Option, Some, None, refl, subst, sym, ◌∙◌}
use Rattle.std.specs.Prelude.{IfSome, IsTrue}
use Rattle.std.proofs.lemmas.Bool.{false≢true}
use Rattle.flt_flash.specs.declared.arm.Arm.{Arm}
use Rattle.flt_step.specs.Step.{is_lane_step, is_store_step}
use Rattle.flt_step.specs.declared.step.Step.{Step}
use Rattle.flt_step.specs.declared.step.Step.TheVariants as steps
use Rattle.flt_life_model.specs.Actions.{IsQueueCall, IsStepCall, action_of, arm_count, arms_of}
use Rattle.flt_life_model.specs.declared.action.Action.{Action}
use Rattle.flt_life_model.specs.declared.action.Action.TheVariants as action

-- ---- which step it is

-- The step that does this, where one kind of step alone does.
abbrev step_of : Action → Option Step
step_of action.Save = Some steps.Save
step_of action.Drain = Some steps.Drain
step_of (action.Get block) = Some (steps.Get block)
step_of (action.Arm arm) = Some (steps.Arming arm)
step_of _ = None

is_step_of : (step : Step) → IfSome (step_of (action_of step)) (λ s. step ≡ s)
is_step_of (steps.Report event report) = tt
is_step_of (steps.Show event) = tt
is_step_of (steps.Cycle cycle) = tt
is_step_of (steps.Tick ticks) = tt
is_step_of (steps.Signal index value) = tt
is_step_of (steps.Enable condition fulfilled) = tt
is_step_of (steps.Request tester bytes) = tt
is_step_of steps.Save = refl
is_step_of (steps.Post urgent block bytes) = tt
is_step_of steps.Drain = refl
is_step_of (steps.Get block) = refl
is_step_of (steps.Ask block) = tt
is_step_of (steps.Arming arm) = refl

pub is_save : (step : Step) → action_of step ≡ action.Save → step ≡ steps.Save
is_save step is = subst (λ a. IfSome (step_of a) (λ s. step ≡ s)) is (is_step_of step)

pub is_drain : (step : Step) → action_of step ≡ action.Drain → step ≡ steps.Drain
is_drain step is = subst (λ a. IfSome (step_of a) (λ s. step ≡ s)) is (is_step_of step)

pub is_get : (step : Step) (block : ℕ) → action_of step ≡ action.Get block → step ≡ steps.Get block
is_get step block is = subst (λ a. IfSome (step_of a) (λ s. step ≡ s)) is (is_step_of step)

pub is_arming : (step : Step) (arm : Arm) → action_of step ≡ action.Arm arm → step ≡ steps.Arming arm
is_arming step arm is = subst (λ a. IfSome (step_of a) (λ s. step ≡ s)) is (is_step_of step)

-- ---- what it touches

abbrev pub touches_store : Action → Bool
touches_store action.Save = true
touches_store action.Drain = true
touches_store (action.Get block) = true
touches_store _ = false

pub touches_by : (step : Step) → is_store_step step ≡ touches_store (action_of step)
touches_by (steps.Report event report) = refl
touches_by (steps.Show event) = refl
touches_by (steps.Cycle cycle) = refl
touches_by (steps.Tick ticks) = refl
touches_by (steps.Signal index value) = refl
touches_by (steps.Enable condition fulfilled) = refl
touches_by (steps.Request tester bytes) = refl
touches_by steps.Save = refl
touches_by (steps.Post urgent block bytes) = refl
touches_by steps.Drain = refl
touches_by (steps.Get block) = refl
touches_by (steps.Ask block) = refl
touches_by (steps.Arming arm) = refl

-- ---- whether it may be in a lane: it is no arm

abbrev pub may_stand : Action → Bool
may_stand (action.Arm arm) = false
may_stand _ = true

stands_by : (step : Step) → is_lane_step step ≡ may_stand (action_of step)
stands_by (steps.Report event report) = refl
stands_by (steps.Show event) = refl
stands_by (steps.Cycle cycle) = refl
stands_by (steps.Tick ticks) = refl
stands_by (steps.Signal index value) = refl
stands_by (steps.Enable condition fulfilled) = refl
stands_by (steps.Request tester bytes) = refl
stands_by steps.Save = refl
stands_by (steps.Post urgent block bytes) = refl
stands_by steps.Drain = refl
stands_by (steps.Get block) = refl
stands_by (steps.Ask block) = refl
stands_by (steps.Arming arm) = refl

pub stands : (step : Step) → IsTrue (is_lane_step step) → may_stand (action_of step) ≡ true
stands step is = sym (stands_by step) ∙ is

no_arms_by : (does : Action) → may_stand does ≡ true → arms_of does ≡ []
no_arms_by (action.Call op) is = refl
no_arms_by (action.Queue op) is = refl
no_arms_by action.Save is = refl
no_arms_by action.Drain is = refl
no_arms_by (action.Get block) is = refl
no_arms_by (action.Arm arm) is = absurd (false≢true is)

pub no_arms : (step : Step) → IsTrue (is_lane_step step) → arms_of (action_of step) ≡ []
no_arms step is = no_arms_by (action_of step) (stands step is)

no_arm_by : (does : Action) → may_stand does ≡ true → arm_count does ≡ 0
no_arm_by (action.Call op) is = refl
no_arm_by (action.Queue op) is = refl
no_arm_by action.Save is = refl
no_arm_by action.Drain is = refl
no_arm_by (action.Get block) is = refl
no_arm_by (action.Arm arm) is = absurd (false≢true is)

pub no_arm : (step : Step) → IsTrue (is_lane_step step) → arm_count (action_of step) ≡ 0
no_arm step is = no_arm_by (action_of step) (stands step is)

-- ---- its call is none that only a save makes, or a drain

abbrev pub IsStepAction : Action → Type 0
IsStepAction (action.Call op) = IsStepCall op
IsStepAction (action.Queue op) = IsQueueCall op
IsStepAction _ = Unit {0}

pub is_step_action : (step : Step) → IsStepAction (action_of step)
is_step_action (steps.Report event report) = tt
is_step_action (steps.Show event) = tt
is_step_action (steps.Cycle cycle) = tt
is_step_action (steps.Tick ticks) = tt
is_step_action (steps.Signal index value) = tt
is_step_action (steps.Enable condition fulfilled) = tt
is_step_action (steps.Request tester bytes) = tt
is_step_action steps.Save = tt
is_step_action (steps.Post urgent block bytes) = tt
is_step_action steps.Drain = tt
is_step_action (steps.Get block) = tt
is_step_action (steps.Ask block) = tt
is_step_action (steps.Arming arm) = tt
