-- What a kept state stands for.
use Rattle.std.specs.Prelude.{◌≡◌, [], ◌∷◌, if◌then◌else◌}
use Rattle.flt_config.specs.Durable.{IsStateOf}
use Rattle.flt_model.specs.Mark.{Past}
use Rattle.flt_model.specs.Mark.Mark.{Aged, Cycle}
use Rattle.flt_model.specs.Status.{durable, ages}
use Rattle.flt_config.specs.declared.config.EventCfg.{EventCfg}
use Rattle.flt_config.specs.declared.persist.EventState.{EventState}

-- The state is what the base and the marks after it decide.
abbrev pub IsDecidedBy : EventCfg → EventState → Past → EventState → Type 0
IsDecidedBy rules base past state = state ≡ durable base rules past

-- The marks of the end of a cycle.
abbrev pub with_cycle_end : EventCfg → EventState → Past → Past
with_cycle_end rules base past = if ages base rules past then Aged ∷ Cycle ∷ past else Cycle ∷ past

-- A state that fits stands for itself, with no marks after it.
abbrev pub FittingStateLaw : Type 0
FittingStateLaw = (rules : EventCfg) (state : EventState) → IsStateOf rules state → IsDecidedBy rules state [] state
