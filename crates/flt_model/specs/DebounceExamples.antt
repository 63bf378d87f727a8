-- Worked examples of debouncing.
use Rattle.std.specs.Prelude.{true, false, [], ◌∷◌, map, pos, negsuc, None, Some}
use Rattle.flt_config.specs.declared.config.Debounce.TheVariants as kinds
use Rattle.flt_model.specs.Start.{fresh}
use Rattle.flt_model.specs.declared.call.Op.TheVariants.{Tick, Cycle, Enable, Show}
use Rattle.flt_model.specs.declared.call.ReplyOf.TheVariants.{Taken}
use Rattle.flt_model.specs.Example.{event, configured, ◌⇒◌, Replays, fail, pass, prefail, prepass, asks, responds, minus, shows, extended}

-- A counter jumps up, clamps at its threshold and steps down.
abbrev pub CounterWithJump : Type 0
CounterWithJump =
    Replays (fresh (configured 16 (record (event 0x000001) { debounce = kinds.Counter (pos 10) (negsuc 9) (pos 3) (pos 2) (Some (pos 0)) None } ∷ [])))
    (Cycle 0 ⇒ Taken
    ∷ pass 0 ⇒ Taken
    ∷ Show 0 ⇒ shows 0x00 (minus 128) 0 0 0 false
    ∷ prefail 0 ⇒ Taken
    ∷ Show 0 ⇒ shows 0x00 (pos 38) 0 0 0 false
    ∷ asks 0 (0x19 ∷ 0x14 ∷ []) ⇒ responds (0x59 ∷ 0x14 ∷ 0x00 ∷ 0x00 ∷ 0x01 ∷ 0x26 ∷ [])
    ∷ prefail 0 ⇒ Taken
    ∷ Show 0 ⇒ shows 0x00 (pos 76) 0 0 0 false
    ∷ prefail 0 ⇒ Taken
    ∷ Show 0 ⇒ shows 0x00 (pos 114) 0 0 0 false
    ∷ prefail 0 ⇒ Taken
    ∷ Show 0 ⇒ shows 0x2F (pos 127) 1 0 1 false
    ∷ prepass 0 ⇒ Taken
    ∷ Show 0 ⇒ shows 0x2F (pos 101) 1 0 1 false
    ∷ [])

-- A counter jumps down before it steps down, and does not jump if it is below already.
abbrev pub CounterJumpsDown : Type 0
CounterJumpsDown =
    Replays (fresh (configured 16 (record (event 0x000001) { debounce = kinds.Counter (pos 10) (negsuc 9) (pos 3) (pos 2) None (Some (pos 0)) } ∷ [])))
    (Cycle 0 ⇒ Taken
    ∷ fail 0 ⇒ Taken
    ∷ Show 0 ⇒ shows 0x2F (pos 127) 1 0 1 false
    ∷ prepass 0 ⇒ Taken
    ∷ Show 0 ⇒ shows 0x2F (minus 25) 1 0 1 false
    ∷ prepass 0 ⇒ Taken
    ∷ Show 0 ⇒ shows 0x2F (minus 51) 1 0 1 false
    ∷ prefail 0 ⇒ Taken
    ∷ Show 0 ⇒ shows 0x2F (minus 12) 1 0 1 false
    ∷ [])

-- Only counters on their way to failed are listed: none at 127, at 0 or below.
abbrev pub CountersOnTheirWay : Type 0
CountersOnTheirWay =
    Replays (fresh (configured 16 (map (λ dtc. record (event dtc) { debounce = kinds.Counter (pos 10) (negsuc 9) (pos 3) (pos 2) None None })
    (1 ∷ 2 ∷ 3 ∷ 4 ∷ []))))
    (Cycle 0 ⇒ Taken
    ∷ fail 0 ⇒ Taken
    ∷ prefail 1 ⇒ Taken
    ∷ prepass 2 ⇒ Taken
    ∷ asks 0 (0x19 ∷ 0x14 ∷ []) ⇒ responds (0x59 ∷ 0x14 ∷ 0x00 ∷ 0x00 ∷ 0x02 ∷ 0x26 ∷ [])
    ∷ [])

-- A timer qualifies once, and a repeated report does not restart it.
abbrev pub TimerQualifiesOnce : Type 0
TimerQualifiesOnce =
    Replays (fresh (configured 16 (record (event 0x000001) { debounce = kinds.Time 10 5 } ∷ [])))
    (Cycle 0 ⇒ Taken
    ∷ prefail 0 ⇒ Taken
    ∷ Tick 9 ⇒ Taken
    ∷ Show 0 ⇒ shows 0x50 (pos 114) 0 0 0 false
    ∷ prefail 0 ⇒ Taken
    ∷ Tick 1 ⇒ Taken
    ∷ Show 0 ⇒ shows 0x2F (pos 127) 1 0 1 false
    ∷ Tick 50 ⇒ Taken
    ∷ Show 0 ⇒ shows 0x2F (pos 127) 1 0 1 false
    ∷ [])

-- A timer that reached its threshold, or went beyond, does not qualify again: the event that was displaced stays unconfirmed.
abbrev pub TimerAtItsThreshold : Type 0
TimerAtItsThreshold =
    Replays (fresh (configured 1 (record (event 0x000001) { priority = 5; debounce = kinds.Time 10 5 } ∷ event 0x000002 ∷ [])))
    (Cycle 0 ⇒ Taken
    ∷ prefail 0 ⇒ Taken
    ∷ Tick 12 ⇒ Taken
    ∷ Show 0 ⇒ shows 0x2F (pos 127) 1 0 1 false
    ∷ fail 1 ⇒ Taken
    ∷ Show 0 ⇒ shows 0x27 (pos 127) 1 0 0 true
    ∷ Tick 1 ⇒ Taken
    ∷ prefail 0 ⇒ Taken
    ∷ Tick 20 ⇒ Taken
    ∷ Show 0 ⇒ shows 0x27 (pos 127) 1 0 0 true
    ∷ [])

-- A report that needs no debouncing qualifies at once, by time too.
abbrev pub TimerIsPassedAtOnce : Type 0
TimerIsPassedAtOnce =
    Replays (fresh (configured 16 (record (event 0x000001) { debounce = kinds.Time 10 5 } ∷ [])))
    (Cycle 0 ⇒ Taken
    ∷ pass 0 ⇒ Taken
    ∷ Show 0 ⇒ shows 0x00 (minus 128) 0 0 0 false
    ∷ fail 0 ⇒ Taken
    ∷ Show 0 ⇒ shows 0x2F (pos 127) 1 0 1 false
    ∷ pass 0 ⇒ Taken
    ∷ Show 0 ⇒ shows 0x2E (minus 128) 1 0 1 false
    ∷ [])

-- The end of a cycle and a clear put a timer at rest.
abbrev pub RestStopsTimers : Type 0
RestStopsTimers =
    Replays (fresh (configured 16 (record (event 0x000001) { debounce = kinds.Time 10 5 } ∷ [])))
    (Cycle 0 ⇒ Taken
    ∷ prefail 0 ⇒ Taken
    ∷ Tick 5 ⇒ Taken
    ∷ Cycle 0 ⇒ Taken
    ∷ Tick 10 ⇒ Taken
    ∷ Show 0 ⇒ shows 0x50 (pos 0) 0 0 0 false
    ∷ prefail 0 ⇒ Taken
    ∷ Tick 5 ⇒ Taken
    ∷ asks 0 (0x14 ∷ 0x00 ∷ 0x00 ∷ 0x01 ∷ []) ⇒ responds (0x54 ∷ [])
    ∷ Tick 10 ⇒ Taken
    ∷ Show 0 ⇒ shows 0x50 (pos 0) 0 0 0 false
    ∷ [])

-- A report in the other direction restarts a timer.
abbrev pub TimerTurnsBack : Type 0
TimerTurnsBack =
    Replays (fresh (configured 16 (record (event 0x000001) { debounce = kinds.Time 10 5 } ∷ [])))
    (Cycle 0 ⇒ Taken
    ∷ prefail 0 ⇒ Taken
    ∷ Tick 5 ⇒ Taken
    ∷ Show 0 ⇒ shows 0x50 (pos 63) 0 0 0 false
    ∷ prepass 0 ⇒ Taken
    ∷ Show 0 ⇒ shows 0x50 (pos 0) 0 0 0 false
    ∷ Tick 4 ⇒ Taken
    ∷ Show 0 ⇒ shows 0x50 (minus 102) 0 0 0 false
    ∷ Tick 1 ⇒ Taken
    ∷ Show 0 ⇒ shows 0x00 (minus 128) 0 0 0 false
    ∷ [])

-- A timer does not run while the setting is off.
abbrev pub SettingOffStopsTimers : Type 0
SettingOffStopsTimers =
    Replays (fresh (configured 16 (record (event 0x000001) { debounce = kinds.Time 10 5 } ∷ [])))
    (Cycle 0 ⇒ Taken
    ∷ prefail 0 ⇒ Taken
    ∷ Tick 4 ⇒ Taken
    ∷ asks 0 (0x10 ∷ 0x03 ∷ []) ⇒ extended
    ∷ asks 0 (0x85 ∷ 0x02 ∷ []) ⇒ responds (0xC5 ∷ 0x02 ∷ [])
    ∷ Tick 6 ⇒ Taken
    ∷ Show 0 ⇒ shows 0x50 (pos 50) 0 0 0 false
    ∷ asks 0 (0x85 ∷ 0x01 ∷ []) ⇒ responds (0xC5 ∷ 0x01 ∷ [])
    ∷ Tick 6 ⇒ Taken
    ∷ Show 0 ⇒ shows 0x2F (pos 127) 1 0 1 false
    ∷ [])

-- Ticks that begin with the setting off do not count, even if they end the session that holds it off.
abbrev pub SilentTicksDoNotCount : Type 0
SilentTicksDoNotCount =
    Replays (fresh (configured 16 (record (event 0x000001) { debounce = kinds.Time 10 5 } ∷ [])))
    (Cycle 0 ⇒ Taken
    ∷ prefail 0 ⇒ Taken
    ∷ asks 0 (0x10 ∷ 0x03 ∷ []) ⇒ extended
    ∷ asks 0 (0x85 ∷ 0x02 ∷ []) ⇒ responds (0xC5 ∷ 0x02 ∷ [])
    ∷ Tick 500 ⇒ Taken
    ∷ Show 0 ⇒ shows 0x50 (pos 0) 0 0 0 false
    ∷ Tick 9 ⇒ Taken
    ∷ Show 0 ⇒ shows 0x50 (pos 114) 0 0 0 false
    ∷ Tick 1 ⇒ Taken
    ∷ Show 0 ⇒ shows 0x2F (pos 127) 1 0 1 false
    ∷ [])

-- A timer does not run while a condition that its event needs is not fulfilled, and then continues from the same state.
abbrev pub DisabledTimerStandsStill : Type 0
DisabledTimerStandsStill =
    Replays (fresh (configured 16 (record (event 0x000001) { debounce = kinds.Time 10 5; needs = 4 } ∷ [])))
    (Cycle 0 ⇒ Taken
    ∷ prefail 0 ⇒ Taken
    ∷ Tick 6 ⇒ Taken
    ∷ Enable 2 false ⇒ Taken
    ∷ Tick 50 ⇒ Taken
    ∷ Show 0 ⇒ shows 0x50 (pos 76) 0 0 0 false
    ∷ Enable 2 true ⇒ Taken
    ∷ Tick 4 ⇒ Taken
    ∷ Show 0 ⇒ shows 0x2F (pos 127) 1 0 1 false
    ∷ [])

-- A report that leaves a counter or a timer at its threshold qualifies each time: an event that was displaced is confirmed again, but
-- gets no entry, since its testFailed did not change.
abbrev pub RepeatedFailureQualifies : Type 0
RepeatedFailureQualifies =
    Replays (fresh (configured 1 (record (event 0x000001) { priority = 5 }
    ∷ record (event 0x000002) { priority = 4; debounce = kinds.Time 10 5 } ∷ event 0x000003 ∷ [])))
    (Cycle 0 ⇒ Taken
    ∷ fail 0 ⇒ Taken
    ∷ fail 1 ⇒ Taken
    ∷ Show 0 ⇒ shows 0x27 (pos 127) 1 0 0 true
    ∷ fail 0 ⇒ Taken
    ∷ Show 0 ⇒ shows 0x2F (pos 127) 1 0 0 true
    ∷ fail 2 ⇒ Taken
    ∷ Show 1 ⇒ shows 0x27 (pos 127) 1 0 0 true
    ∷ fail 1 ⇒ Taken
    ∷ Show 1 ⇒ shows 0x2F (pos 127) 1 0 0 true
    ∷ [])

-- The fault detection counters that are listed go from 1 to 126.
abbrev pub EndsOfTheCounterList : Type 0
EndsOfTheCounterList =
    Replays (fresh (configured 16 (record (event 0x000001) { debounce = kinds.Counter (pos 127) (negsuc 0) (pos 1) (pos 1) None None }
    ∷ record (event 0x000002) { debounce = kinds.Counter (pos 127) (negsuc 0) (pos 1) (pos 1) (Some (pos 125)) None } ∷ [])))
    (Cycle 0 ⇒ Taken
    ∷ prefail 0 ⇒ Taken
    ∷ prefail 1 ⇒ Taken
    ∷ asks 0 (0x19 ∷ 0x14 ∷ []) ⇒ responds (0x59 ∷ 0x14 ∷ 0x00 ∷ 0x00 ∷ 0x01 ∷ 0x01 ∷ 0x00 ∷ 0x00 ∷ 0x02 ∷ 0x7E ∷ [])
    ∷ [])

-- A timer that a definite report brought to its threshold stays there under tending reports of that direction.
abbrev pub TimerStaysAtItsThreshold : Type 0
TimerStaysAtItsThreshold =
    Replays (fresh (configured 16 (record (event 0x000001) { debounce = kinds.Time 10 5 } ∷ [])))
    (Cycle 0 ⇒ Taken
    ∷ fail 0 ⇒ Taken
    ∷ prefail 0 ⇒ Taken
    ∷ Tick 1 ⇒ Taken
    ∷ Show 0 ⇒ shows 0x2F (pos 127) 1 0 1 false
    ∷ pass 0 ⇒ Taken
    ∷ prepass 0 ⇒ Taken
    ∷ Tick 1 ⇒ Taken
    ∷ Show 0 ⇒ shows 0x2E (minus 128) 1 0 1 false
    ∷ [])
