-- Worked examples of debouncing by a counter.
use Rattle.std.specs.Prelude.{true, false, [], ◌∷◌, pos, negsuc, None}
use Rattle.flt_config.specs.declared.config.Debounce.TheVariants as kinds
use Rattle.flt_model.specs.Start.{fresh}
use Rattle.flt_model.specs.declared.call.Op.TheVariants.{Tick, Cycle, Show}
use Rattle.flt_model.specs.declared.call.ReplyOf.TheVariants.{Taken}
use Rattle.flt_model.specs.Example.{event, configured, ◌⇒◌, Replays, fail, prefail, shows}

-- A tending report that leaves a counter at its threshold qualifies again.
abbrev pub TendingFailureQualifiesAgain : Type 0
TendingFailureQualifiesAgain =
    Replays (fresh (configured 1 (record (event 0x000001) { priority = 5 } ∷ event 0x000002 ∷ [])))
    (Cycle 0 ⇒ Taken
    ∷ prefail 0 ⇒ Taken
    ∷ Show 0 ⇒ shows 0x2F (pos 127) 1 0 1 false
    ∷ fail 1 ⇒ Taken
    ∷ Show 0 ⇒ shows 0x27 (pos 127) 1 0 0 true
    ∷ prefail 0 ⇒ Taken
    ∷ Show 0 ⇒ shows 0x2F (pos 127) 1 0 0 true
    ∷ [])

-- Ticks do not change a counter.
abbrev pub TicksLeaveCounters : Type 0
TicksLeaveCounters =
    Replays (fresh (configured 16 (record (event 0x000001) { debounce = kinds.Counter (pos 10) (negsuc 9) (pos 3) (pos 2) None None } ∷ [])))
    (Cycle 0 ⇒ Taken
    ∷ prefail 0 ⇒ Taken
    ∷ Tick 50 ⇒ Taken
    ∷ Show 0 ⇒ shows 0x50 (pos 38) 0 0 0 false
    ∷ [])
