-- How one mark changes a state, whatever marks led to it, or none.
use Rattle.std.specs.Prelude.{Bool, false, [], ◌∷◌}
use Rattle.flt_config.specs.declared.config.EventCfg.{EventCfg}
use Rattle.flt_config.specs.declared.persist.EventState.{EventState}
use Rattle.flt_model.specs.Byte.{byte_of, status_of}
use Rattle.flt_model.specs.Mark.Mark.{Failed}
use Rattle.flt_model.specs.Status.{durable, enters, confirms, ages}
use Rattle.flt_model.specs.declared.status.Status.{Status}
use Rattle.flt_status.specs.Standing.{with_cycle_end}
use Rattle.flt_status.specs.declared.step.FailedMark.{FailedMark}

-- The state with other bits in its status byte.
abbrev pub with_bits : EventState → Status → EventState
with_bits state bits = record state { status = byte_of bits }

-- After a passed test bits 0, 4 and 6 are 0, and everything else is as before.
abbrev pub after_passed : EventState → EventState
after_passed state =
    with_bits state (record (status_of state.status) { test_failed = false; not_completed_since_clear = false; not_completed_this_cycle = false })

-- After a displacement bits 3 and 7 are 0 and the event is not lit, and everything else is as before.
abbrev pub after_displaced : EventState → EventState
after_displaced state =
    record (with_bits state (record (status_of state.status) { confirmed = false; indicator_requested = false })) { lit = false }

-- After a failure it is what the mark makes of it as a base.
abbrev pub after_failed : EventCfg → EventState → EventState
after_failed rules state = durable state rules (Failed ∷ [])

-- What else the failure changes.
abbrev pub failed_mark : EventCfg → EventState → FailedMark
failed_mark rules state = record { entered = enters state []; confirmed = confirms state rules [] }

-- After the end of a cycle it is what that makes of it as a base.
abbrev pub after_cycle : EventCfg → EventState → EventState
after_cycle rules state = durable state rules (with_cycle_end rules state [])

-- The end of a cycle ages it.
abbrev pub ages_now : EventCfg → EventState → Bool
ages_now rules state = ages state rules []
