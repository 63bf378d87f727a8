-- Worked examples of status bits, counts, healing and aging.
use Rattle.std.specs.Prelude.{ℕ, true, false, [], ◌∷◌, pos}
use Rattle.flt_config.specs.Durable.{initial_state}
use Rattle.flt_model.specs.Start.{Start, fresh}
use Rattle.flt_model.specs.declared.call.Op.TheVariants.{Cycle, Enable, Show}
use Rattle.flt_model.specs.declared.call.ReplyOf.TheVariants.{Taken, Ignored}
use Rattle.flt_model.specs.declared.call.Cause.TheVariants.{SettingOff, NotStarted, NotEnabled}
use Rattle.flt_model.specs.Example.{event, configured, restarted, ◌⇒◌, Replays, fail, pass, asks, responds, minus, shows, extended}

-- An event fails, passes and heals.
abbrev pub OneEventLife : Type 0
OneEventLife =
    Replays (fresh (configured 16 (event 0x123456 ∷ [])))
    (Cycle 0 ⇒ Taken
    ∷ fail 0 ⇒ Taken
    ∷ Show 0 ⇒ shows 0x2F (pos 127) 1 0 1 false
    ∷ pass 0 ⇒ Taken
    ∷ Show 0 ⇒ shows 0x2E (minus 128) 1 0 1 false
    ∷ Cycle 0 ⇒ Taken
    ∷ Show 0 ⇒ shows 0x6C (pos 0) 1 0 1 false
    ∷ pass 0 ⇒ Taken
    ∷ Show 0 ⇒ shows 0x2C (minus 128) 1 0 1 false
    ∷ Cycle 0 ⇒ Taken
    ∷ Show 0 ⇒ shows 0x68 (pos 0) 0 1 1 false
    ∷ [])

-- A cycle without a test does not reset the failed count.
abbrev pub UntestedCycle : Type 0
UntestedCycle =
    Replays (fresh (configured 16 (record (event 0x123456) { confirm = 2 } ∷ [])))
    (Cycle 0 ⇒ Taken
    ∷ fail 0 ⇒ Taken
    ∷ Show 0 ⇒ shows 0x27 (pos 127) 1 0 1 false
    ∷ Cycle 0 ⇒ Taken
    ∷ Cycle 0 ⇒ Taken
    ∷ fail 0 ⇒ Taken
    ∷ Show 0 ⇒ shows 0x2F (pos 127) 2 0 1 false
    ∷ [])

-- A cycle without a test keeps pendingDTC, and a clean one clears it.
abbrev pub UntestedCycleKeepsPending : Type 0
UntestedCycleKeepsPending =
    Replays (fresh (configured 16 (event 0x123456 ∷ [])))
    (Cycle 0 ⇒ Taken
    ∷ fail 0 ⇒ Taken
    ∷ Cycle 0 ⇒ Taken
    ∷ Cycle 0 ⇒ Taken
    ∷ Show 0 ⇒ shows 0x6D (pos 0) 1 0 1 false
    ∷ pass 0 ⇒ Taken
    ∷ Cycle 0 ⇒ Taken
    ∷ Show 0 ⇒ shows 0x68 (pos 0) 0 1 1 false
    ∷ [])

-- The indicator goes off by healing, and the entry by aging.
abbrev pub HealAndAge : Type 0
HealAndAge =
    Replays (fresh (configured 16 (record (event 1) { indicator = true; heal = 1; age = 2 } ∷ record (event 2) { age = 2 } ∷ [])))
    (Cycle 0 ⇒ Taken
    ∷ fail 0 ⇒ Taken
    ∷ fail 1 ⇒ Taken
    ∷ Show 0 ⇒ shows 0xAF (pos 127) 1 0 1 false
    ∷ pass 0 ⇒ Taken
    ∷ pass 1 ⇒ Taken
    ∷ Cycle 0 ⇒ Taken
    ∷ Show 0 ⇒ shows 0xEC (pos 0) 1 0 1 false
    ∷ Show 1 ⇒ shows 0x6C (pos 0) 1 0 1 false
    ∷ pass 0 ⇒ Taken
    ∷ pass 1 ⇒ Taken
    ∷ Cycle 0 ⇒ Taken
    ∷ Show 0 ⇒ shows 0x68 (pos 0) 0 1 1 false
    ∷ Show 1 ⇒ shows 0x68 (pos 0) 0 1 1 false
    ∷ pass 0 ⇒ Taken
    ∷ pass 1 ⇒ Taken
    ∷ Cycle 0 ⇒ Taken
    ∷ Show 0 ⇒ shows 0x68 (pos 0) 0 2 1 false
    ∷ Show 1 ⇒ shows 0x60 (pos 0) 0 2 0 false
    ∷ pass 0 ⇒ Taken
    ∷ pass 1 ⇒ Taken
    ∷ Cycle 0 ⇒ Taken
    ∷ Show 0 ⇒ shows 0x60 (pos 0) 0 3 0 false
    ∷ [])

-- A failure resets the clean count, so aging counts from the last one.
abbrev pub CleanCountBeginsAnew : Type 0
CleanCountBeginsAnew =
    Replays (fresh (configured 16 (record (event 0x123456) { age = 2 } ∷ [])))
    (Cycle 0 ⇒ Taken
    ∷ fail 0 ⇒ Taken
    ∷ Cycle 0 ⇒ Taken
    ∷ pass 0 ⇒ Taken
    ∷ Cycle 0 ⇒ Taken
    ∷ Show 0 ⇒ shows 0x68 (pos 0) 0 1 1 false
    ∷ fail 0 ⇒ Taken
    ∷ Show 0 ⇒ shows 0x2F (pos 127) 1 0 2 false
    ∷ Cycle 0 ⇒ Taken
    ∷ pass 0 ⇒ Taken
    ∷ Cycle 0 ⇒ Taken
    ∷ Show 0 ⇒ shows 0x68 (pos 0) 0 1 2 false
    ∷ pass 0 ⇒ Taken
    ∷ Cycle 0 ⇒ Taken
    ∷ Show 0 ⇒ shows 0x60 (pos 0) 0 2 0 false
    ∷ [])

-- A report is ignored for the setting first, and then for its cycle.
abbrev pub ReportsAreIgnored : Type 0
ReportsAreIgnored =
    Replays (fresh (configured 16 (event 0x000001 ∷ [])))
    (Cycle 1 ⇒ Taken
    ∷ fail 0 ⇒ Ignored NotStarted
    ∷ asks 0 (0x10 ∷ 0x03 ∷ []) ⇒ extended
    ∷ asks 0 (0x85 ∷ 0x02 ∷ []) ⇒ responds (0xC5 ∷ 0x02 ∷ [])
    ∷ fail 0 ⇒ Ignored SettingOff
    ∷ Cycle 0 ⇒ Taken
    ∷ fail 0 ⇒ Ignored SettingOff
    ∷ asks 0 (0x85 ∷ 0x01 ∷ []) ⇒ responds (0xC5 ∷ 0x01 ∷ [])
    ∷ fail 0 ⇒ Taken
    ∷ Cycle 1 ⇒ Taken
    ∷ Show 0 ⇒ shows 0x2F (pos 127) 1 0 1 false
    ∷ [])

-- A report is ignored for its cycle first, and then for a condition that its event needs.
abbrev pub DisabledReportsAreIgnored : Type 0
DisabledReportsAreIgnored =
    Replays (fresh (configured 16 (record (event 0x000001) { needs = 4 } ∷ [])))
    (Enable 2 false ⇒ Taken
    ∷ fail 0 ⇒ Ignored NotStarted
    ∷ Cycle 0 ⇒ Taken
    ∷ fail 0 ⇒ Ignored NotEnabled
    ∷ asks 0 (0x10 ∷ 0x03 ∷ []) ⇒ extended
    ∷ asks 0 (0x85 ∷ 0x02 ∷ []) ⇒ responds (0xC5 ∷ 0x02 ∷ [])
    ∷ fail 0 ⇒ Ignored SettingOff
    ∷ asks 0 (0x85 ∷ 0x01 ∷ []) ⇒ responds (0xC5 ∷ 0x01 ∷ [])
    ∷ Enable 2 true ⇒ Taken
    ∷ fail 0 ⇒ Taken
    ∷ [])

-- Only the conditions whose bits are set are needed, and each of them; at power-up all are fulfilled.
abbrev pub EachNeededConditionCounts : Type 0
EachNeededConditionCounts =
    Replays (fresh (configured 16 (record (event 0x000001) { needs = 0x81 } ∷ event 0x000002 ∷ [])))
    (Cycle 0 ⇒ Taken
    ∷ pass 0 ⇒ Taken
    ∷ Enable 1 false ⇒ Taken
    ∷ pass 0 ⇒ Taken
    ∷ Enable 7 false ⇒ Taken
    ∷ pass 0 ⇒ Ignored NotEnabled
    ∷ pass 1 ⇒ Taken
    ∷ Enable 0 false ⇒ Taken
    ∷ Enable 7 true ⇒ Taken
    ∷ pass 0 ⇒ Ignored NotEnabled
    ∷ Enable 0 true ⇒ Taken
    ∷ pass 0 ⇒ Taken
    ∷ [])

-- What is saved is kept in the next life, and what is volatile is not.
abbrev pub NextLife : Type 0
NextLife =
    Replays (restarted (fresh (configured 16 (event 0x123456 ∷ []))) (fail 0 ∷ Cycle 0 ∷ []))
    (Show 0 ⇒ shows 0x2F (pos 0) 1 0 1 false
    ∷ fail 0 ⇒ Ignored NotStarted
    ∷ Cycle 0 ⇒ Taken
    ∷ fail 0 ⇒ Taken
    ∷ Show 0 ⇒ shows 0x2F (pos 127) 2 0 1 false
    ∷ [])

-- A confirmed event that is lit, with an entry, as it was saved: its status, its counts and the occurrences of its entry.
abbrev pub saved_once : ℕ → ℕ → ℕ → ℕ → Start
saved_once status failed clean occurrence = record {
  config = configured 16 (record (event 0x123456) { indicator = true; heal = 255; age = 255 } ∷ []);
  base = record (initial_state (configured 16 (event 0x123456 ∷ []))) {
    events = record { items = record { status = status; failed = failed; clean = clean; lit = true } ∷ [] };
    entries = record { items = record { event = 0; occurrence = occurrence; first = record { items = [] }; recent = record { items = [] } } ∷ [] };
  };
}

-- The failed count and the occurrences stop at 255.
abbrev pub FailuresStopAtMost : Type 0
FailuresStopAtMost =
    Replays (saved_once 0xAF 254 0 254)
    (Cycle 0 ⇒ Taken
    ∷ fail 0 ⇒ Taken
    ∷ Show 0 ⇒ shows 0xAF (pos 127) 255 0 254 false
    ∷ Cycle 0 ⇒ Taken
    ∷ pass 0 ⇒ Taken
    ∷ fail 0 ⇒ Taken
    ∷ Show 0 ⇒ shows 0xAF (pos 127) 255 0 255 false
    ∷ Cycle 0 ⇒ Taken
    ∷ pass 0 ⇒ Taken
    ∷ fail 0 ⇒ Taken
    ∷ Show 0 ⇒ shows 0xAF (pos 127) 255 0 255 false
    ∷ [])

-- The clean count is reported to a tester up to 255, ages the event at 510, which is the most that heal and age add up to, and stops there.
abbrev pub CleanCyclesStopAtMost : Type 0
CleanCyclesStopAtMost =
    Replays (saved_once 0x68 0 508 1)
    (Cycle 0 ⇒ Taken
    ∷ pass 0 ⇒ Taken
    ∷ Cycle 0 ⇒ Taken
    ∷ asks 0 (0x19 ∷ 0x06 ∷ 0x12 ∷ 0x34 ∷ 0x56 ∷ 0x02 ∷ []) ⇒ responds (0x59 ∷ 0x06 ∷ 0x12 ∷ 0x34 ∷ 0x56 ∷ 0x68 ∷ 0x02 ∷ 0xFF ∷ [])
    ∷ Show 0 ⇒ shows 0x68 (pos 0) 0 509 1 false
    ∷ pass 0 ⇒ Taken
    ∷ Cycle 0 ⇒ Taken
    ∷ Show 0 ⇒ shows 0x60 (pos 0) 0 510 0 false
    ∷ pass 0 ⇒ Taken
    ∷ Cycle 0 ⇒ Taken
    ∷ Show 0 ⇒ shows 0x60 (pos 0) 0 510 0 false
    ∷ [])

-- An event whose indicator is not lit ages at its own threshold, even if it has an indicator.
abbrev pub UnlitEventAges : Type 0
UnlitEventAges =
    Replays (fresh (configured 16 (record (event 0x000001) { indicator = true; confirm = 2; heal = 2; age = 1 } ∷ [])))
    (Cycle 0 ⇒ Taken
    ∷ fail 0 ⇒ Taken
    ∷ Cycle 0 ⇒ Taken
    ∷ pass 0 ⇒ Taken
    ∷ Cycle 0 ⇒ Taken
    ∷ Show 0 ⇒ shows 0x60 (pos 0) 0 1 0 false
    ∷ [])

-- A displacement keeps the clean count, and all bits except confirmedDTC and warningIndicatorRequested.
abbrev pub DisplacementKeepsCleanCount : Type 0
DisplacementKeepsCleanCount =
    Replays (fresh (configured 1 (event 0x000001 ∷ event 0x000002 ∷ [])))
    (Cycle 0 ⇒ Taken
    ∷ fail 0 ⇒ Taken
    ∷ Cycle 0 ⇒ Taken
    ∷ pass 0 ⇒ Taken
    ∷ Cycle 0 ⇒ Taken
    ∷ fail 1 ⇒ Taken
    ∷ Show 0 ⇒ shows 0x60 (pos 0) 0 1 0 true
    ∷ [])

-- An operation cycle ends and a clear is carried out even while the DTC setting is off.
abbrev pub CycleEndsWithSettingOff : Type 0
CycleEndsWithSettingOff =
    Replays (fresh (configured 16 (event 0x000001 ∷ [])))
    (Cycle 0 ⇒ Taken
    ∷ fail 0 ⇒ Taken
    ∷ asks 0 (0x10 ∷ 0x03 ∷ []) ⇒ extended
    ∷ asks 0 (0x85 ∷ 0x02 ∷ []) ⇒ responds (0xC5 ∷ 0x02 ∷ [])
    ∷ Cycle 0 ⇒ Taken
    ∷ Show 0 ⇒ shows 0x6D (pos 0) 1 0 1 false
    ∷ asks 0 (0x14 ∷ 0x00 ∷ 0x00 ∷ 0x01 ∷ []) ⇒ responds (0x54 ∷ [])
    ∷ Show 0 ⇒ shows 0x50 (pos 0) 0 0 0 false
    ∷ [])

-- An entry ages out even if its event is not confirmed.
abbrev pub UnconfirmedEntryAges : Type 0
UnconfirmedEntryAges =
    Replays (fresh (configured 16 (record (event 0x000001) { confirm = 2; age = 1 } ∷ [])))
    (Cycle 0 ⇒ Taken
    ∷ fail 0 ⇒ Taken
    ∷ Show 0 ⇒ shows 0x27 (pos 127) 1 0 1 false
    ∷ Cycle 0 ⇒ Taken
    ∷ pass 0 ⇒ Taken
    ∷ Cycle 0 ⇒ Taken
    ∷ Show 0 ⇒ shows 0x60 (pos 0) 0 1 0 false
    ∷ [])

-- A displaced event whose failed count is above its threshold is confirmed again by a failure, but gets no entry, since its testFailed
-- did not change.
abbrev pub ConfirmedAnew : Type 0
ConfirmedAnew =
    Replays (fresh (configured 1 (record (event 0x000001) { priority = 5 } ∷ event 0x000002 ∷ [])))
    (Cycle 0 ⇒ Taken
    ∷ fail 0 ⇒ Taken
    ∷ Cycle 0 ⇒ Taken
    ∷ fail 0 ⇒ Taken
    ∷ fail 1 ⇒ Taken
    ∷ Show 0 ⇒ shows 0x27 (pos 127) 2 0 0 true
    ∷ asks 0 (0x14 ∷ 0x00 ∷ 0x00 ∷ 0x02 ∷ []) ⇒ responds (0x54 ∷ [])
    ∷ fail 0 ⇒ Taken
    ∷ Show 0 ⇒ shows 0x2F (pos 127) 2 0 0 true
    ∷ [])
