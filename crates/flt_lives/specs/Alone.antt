-- Lives of lane 0 alone, without blocks of lanes and without write jobs.
use Rattle.std.specs.Prelude.{List, All}
use Rattle.std.proofs.Common.{inl, inr}
use Rattle.flt_step.specs.declared.step.Part.{Part}
use Rattle.flt_step.specs.declared.step.Step.{Step}
use Rattle.flt_step.specs.Part.{PartOf, parts_of}
use Rattle.flt_life_model.specs.declared.action.Action.{Action}
use Rattle.flt_life_model.specs.declared.action.Action.TheVariants.{Queue, Drain, Get}
use Rattle.flt_life_model.specs.Actions.{action_of}
use Rattle.flt_life_model.specs.Parts.{own_actions}

-- A step that leaves the queue and the application blocks alone.
abbrev pub IsPlain : Action → Type 0
IsPlain (Queue op) = ⊥
IsPlain Drain = ⊥
IsPlain (Get block) = ⊥
IsPlain _ = Unit {0}

-- Such a step by itself.
abbrev pub IsAlone : PartOf Step → Type 0
IsAlone (inl step) = IsPlain (action_of step)
IsAlone (inr lanes) = ⊥

abbrev pub AreAlone : List (PartOf Step) → Type 0
AreAlone parts = All IsAlone parts

-- What the steps of lane 0 do, in order.
abbrev pub actions_in : List Part → List Action
actions_in parts = own_actions (parts_of parts)
