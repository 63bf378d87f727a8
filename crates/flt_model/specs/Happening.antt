-- What the calls mean for each event: started cycles, signals, enable conditions, and what happened to the event (AUTOSAR Dem, in outline).
use Rattle.std.specs.Prelude.{ℕ, ◌==◌, Bool, true, false, not, ◌&&◌, ◌||◌, if◌then◌else◌, List, [], ◌∷◌, slice_index_or, Option, Some, None, is_none, Result, Ok, Err}
use Rattle.std.specs.List.{list_all}
use Rattle.flt_model.specs.Start.{Start, History, event_of}
use Rattle.flt_model.specs.Mark.{decided}
use Rattle.flt_model.specs.Byte.{is_bit_set}
use Rattle.flt_model.specs.Debounce.{Happening, Happenings, Reported, Ticked, Ended, Cleared}
use Rattle.flt_model.specs.Request.{asked}
use Rattle.flt_model.specs.Session.{is_setting_off}
use Rattle.flt_model.specs.declared.call.Op.{Op}
use Rattle.flt_model.specs.declared.call.Op.TheVariants as ops
use Rattle.flt_model.specs.declared.call.Cause.{Cause}
use Rattle.flt_model.specs.declared.call.Cause.TheVariants.{SettingOff, NotStarted, NotEnabled}
use Rattle.flt_model.specs.declared.request.Request.{Request}
use Rattle.flt_model.specs.declared.request.Request.TheVariants.{Clear}
use Rattle.flt_model.specs.declared.request.Asked.{Asked}
use Rattle.flt_model.specs.declared.request.Negative.{Negative}

-- ---- started cycles

-- An operation cycle is started by a call on it.
abbrev pub started_row : ℕ → History → Op → Option Bool
started_row cycle past (ops.Cycle other) = if other == cycle then Some true else None
started_row cycle past _ = None

-- The operation cycle was started since power-up.
abbrev pub is_started : ℕ → History → Bool
is_started cycle past = decided (started_row cycle) false past

-- ---- signals

-- A signal has the value of the last call on it.
abbrev pub signal_row : ℕ → History → Op → Option ℕ
signal_row index past (ops.Signal other value) = if other == index then Some value else None
signal_row index past _ = None

-- The value of a signal, 0 at power-up.
abbrev pub signal : ℕ → History → ℕ
signal index past = decided (signal_row index) 0 past

-- The values of the eight signals.
abbrev pub signals : History → List ℕ
signals past =
    signal 0 past ∷ signal 1 past ∷ signal 2 past ∷ signal 3 past
    ∷ signal 4 past ∷ signal 5 past ∷ signal 6 past ∷ signal 7 past ∷ []

-- ---- enable conditions

-- An enable condition is fulfilled or not as the last call on it says.
abbrev pub fulfilled_row : ℕ → History → Op → Option Bool
fulfilled_row condition past (ops.Enable other fulfilled) = if other == condition then Some fulfilled else None
fulfilled_row condition past _ = None

-- A condition is fulfilled, as each is at power-up.
abbrev pub is_fulfilled : ℕ → History → Bool
is_fulfilled condition past = decided (fulfilled_row condition) true past

-- Which of the eight conditions are fulfilled.
abbrev pub conditions : History → List Bool
conditions past =
    is_fulfilled 0 past ∷ is_fulfilled 1 past ∷ is_fulfilled 2 past ∷ is_fulfilled 3 past
    ∷ is_fulfilled 4 past ∷ is_fulfilled 5 past ∷ is_fulfilled 6 past ∷ is_fulfilled 7 past ∷ []

-- Each condition is fulfilled whose bit is set in the byte.
abbrev pub are_met : ℕ → List Bool → Bool
are_met needs fulfilled = list_all (λ c. not (is_bit_set needs c) || slice_index_or fulfilled c true) (0 ∷ 1 ∷ 2 ∷ 3 ∷ 4 ∷ 5 ∷ 6 ∷ 7 ∷ [])

-- An event is enabled while every condition that it needs is fulfilled.
abbrev pub is_enabled : Start → ℕ → History → Bool
is_enabled life event past = are_met (event_of life event).needs (conditions past)

-- ---- clears

-- The group of all DTCs.
abbrev pub all_dtcs : ℕ
all_dtcs = 0xFFFFFF

-- The DTC that a request clears (ISO 14229-1, service 0x14).
abbrev pub dtc_of_clear : Request → Option ℕ
dtc_of_clear (Clear dtc) = Some dtc
dtc_of_clear _ = None

-- The same of what the bytes ask for.
abbrev pub clear_asked : Result Asked Negative → Option ℕ
clear_asked (Ok request) = dtc_of_clear request.request
clear_asked (Err refused) = None

-- The DTC that a call clears.
abbrev pub cleared_dtc : Op → Option ℕ
cleared_dtc (ops.Request tester bytes) = clear_asked (asked false bytes.items)
cleared_dtc _ = None

-- A clear of this DTC reaches an event.
abbrev pub reaches : Start → ℕ → ℕ → Bool
reaches life event dtc = (dtc == all_dtcs) || (dtc == (event_of life event).dtc)

-- A clear that reaches the event.
abbrev pub cleared_where : Bool → Option Happening
cleared_where true = Some Cleared
cleared_where false = None

-- What a call that clears this DTC is for an event.
abbrev pub happening_of_clear : Start → ℕ → Option ℕ → Option Happening
happening_of_clear life event None = None
happening_of_clear life event (Some dtc) = cleared_where (reaches life event dtc)

-- ---- what happened to an event

-- What is seen of an event before a report on it.
pub record Readiness : Type 0 where
  -- The DTC setting is on.
  pub setting : Bool
  -- The event's operation cycle was started since power-up.
  pub started : Bool
  -- Every enable condition that the event needs is fulfilled.
  pub enabled : Bool

-- What is seen of an event after a past.
abbrev pub readiness : Start → ℕ → History → Readiness
readiness life event past = record {
  setting = not (is_setting_off past);
  started = is_started (event_of life event).cycle past;
  enabled = is_enabled life event past;
}

-- A report is ignored while the setting is off, else if the cycle of its event was not started, and else while its event is not enabled.
abbrev pub cause_of : Readiness → Option Cause
cause_of seen =
    if not seen.setting then Some SettingOff
    else if not seen.started then Some NotStarted
    else if not seen.enabled then Some NotEnabled
    else None

-- A report counts if there is no cause to ignore it.
abbrev pub counts_report : Start → ℕ → History → Bool
counts_report life event past = is_none (cause_of (readiness life event past))

-- Ticks count with the setting on, for an event that is enabled.
abbrev pub counts_ticks : Start → ℕ → History → Bool
counts_ticks life event past = not (is_setting_off past) && is_enabled life event past

-- A report on the event itself.
abbrev pub own_report : Start → ℕ → History → Bool → Option Bool
own_report life event past true = Some (counts_report life event past)
own_report life event past false = None

-- A report that counts, or nothing if it is ignored or on another event.
abbrev pub reported_where : Option Bool → Happening → Option Happening
reported_where (Some true) report = Some report
reported_where (Some false) report = None
reported_where None report = None

-- What a call after a past is for an event.
abbrev pub happening_of : Start → ℕ → History → Op → Option Happening
happening_of life event past (ops.Report other report) =
    reported_where (own_report life event past (other == event)) (Reported report)
happening_of life event past (ops.Tick ticks) = if counts_ticks life event past then Some (Ticked ticks) else None
happening_of life event past (ops.Cycle cycle) = if cycle == (event_of life event).cycle then Some Ended else None
happening_of life event past (ops.Request tester bytes) = happening_of_clear life event (cleared_dtc (ops.Request tester bytes))
happening_of life event past _ = None

-- One more happening, if there is one.
abbrev pub with_happening : Option Happening → Happenings → Happenings
with_happening None happenings = happenings
with_happening (Some happening) happenings = happening ∷ happenings

-- What happened to an event in a list of calls, newest first.
abbrev pub happenings : Start → ℕ → History → Happenings
happenings life event [] = []
happenings life event (op ∷ past) = with_happening (happening_of life event past op) (happenings life event past)
