-- What calls do: a clear of all, and a call that names one event.
use Rattle.std.specs.Prelude.{◌≡◌, ◌≢◌, ℕ, ◌<◌, ◌⊎◌, false, ◌∷◌, AllPairs, Some, None}
use Rattle.flt_config.specs.declared.config.EventCfg.{EventCfg}
use Rattle.flt_config.specs.declared.persist.EventState.{EventState}
use Rattle.flt_config.specs.Validity.{HasOtherDtc}
use Rattle.flt_config.specs.Durable.{Fits, initial_state}
use Rattle.flt_model.specs.declared.call.Op.{Op}
use Rattle.flt_model.specs.declared.call.Op.TheVariants as ops
use Rattle.flt_model.specs.declared.call.Report.{Report}
use Rattle.flt_model.specs.Start.{Start, History, count, event_of}
use Rattle.flt_model.specs.Mark.{Past, marks_of}
use Rattle.flt_model.specs.Mark.Mark.{Displaced}
use Rattle.flt_model.specs.Status.{status}
use Rattle.flt_model.specs.Happening.{happening_of, cleared_dtc, all_dtcs}
use Rattle.flt_model.specs.Trace.{trace}
use Rattle.flt_model.specs.Durable.{saved_after}

-- A clear of all leaves the state of a controller that never saved one.
abbrev pub ClearOfAllLeavesFirstState : Type 0
ClearOfAllLeavesFirstState = (life : Start) (past : History) (op : Op) → Fits life.config life.base →
    cleared_dtc op ≡ Some all_dtcs → saved_after life (op ∷ past) ≡ initial_state life.config

-- A call is about one event: nothing happens to the others.
abbrev pub IsAboutEvent : Start → History → Op → ℕ → Type 0
IsAboutEvent life past op event = (other : ℕ) → other < count life → other ≢ event → happening_of life other past op ≡ None

-- A report is about its event.
abbrev pub ReportIsAboutItsEvent : Type 0
ReportIsAboutItsEvent = (life : Start) (past : History) (event : ℕ) (report : Report) → IsAboutEvent life past (ops.Report event report) event

-- A clear of one DTC is about the event that has it.
abbrev pub ClearIsAboutItsEvent : Type 0
ClearIsAboutItsEvent = (life : Start) (past : History) (op : Op) (event : ℕ) → AllPairs HasOtherDtc life.config.events.items →
    event < count life → (event_of life event).dtc ≢ all_dtcs → cleared_dtc op ≡ Some (event_of life event).dtc → IsAboutEvent life past op event

-- An event has no more marks, or one more, a displacement.
abbrev pub IsLeftAlone : Past → Past → Type 0
IsLeftAlone old new = (new ≡ old) ⊎ (new ≡ Displaced ∷ old)

-- A call about one event does not change any other event, except one that is displaced.
abbrev pub OthersAreLeftAlone : Type 0
OthersAreLeftAlone = (life : Start) (past : History) (op : Op) (event other : ℕ) → IsAboutEvent life past op event → other ≢ event →
    IsLeftAlone (marks_of other (trace life past)) (marks_of other (trace life (op ∷ past)))

-- A displacement clears confirmedDTC and warningIndicatorRequested, and does not change the other bits.
abbrev pub DisplacementLeavesOtherBits : Type 0
DisplacementLeavesOtherBits = (base : EventState) (event : EventCfg) (past : Past) →
    status base event (Displaced ∷ past) ≡ record (status base event past) { confirmed = false; indicator_requested = false }
