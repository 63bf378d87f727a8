-- The event manager as a contract sees it, and what it stands for.
use Rattle.std.specs.Prelude.{◌≡◌, ◌≢◌, ℕ, ◌<◌, Bool, false, not, List, ◌∷◌, slice_get, find, unwrap_or, Option, Some, None, IfSome}
use Rattle.flt_config.specs.declared.config.Config.{Config}
use Rattle.flt_config.specs.declared.persist.EntryState.{EntryState}
use Rattle.flt_config.specs.declared.persist.EventState.{EventState}
use Rattle.flt_config.specs.Durable.{is_of_event}
use Rattle.flt_model.specs.Start.{Start, History, no_event}
use Rattle.flt_model.specs.Happening.{Readiness, is_started, signals, conditions, are_met, cleared_dtc}
use Rattle.flt_model.specs.Session.{is_setting_off}
use Rattle.flt_model.specs.Request.{RequestBytes}
use Rattle.flt_model.specs.Entry.{has_entry}
use Rattle.flt_model.specs.Trace.{trace}
use Rattle.flt_model.specs.Durable.{saved_after}
use Rattle.flt_model.specs.Answer.{answer, entry_where}
use Rattle.flt_model.specs.declared.call.Op.{Op}
use Rattle.flt_model.specs.declared.call.Op.TheVariants as ops
use Rattle.flt_model.specs.declared.call.DebState.{DebState}
use Rattle.flt_model.specs.Reply.{Reply}
use Rattle.flt_dem.specs.declared.notes.Which.{Which}
use Rattle.flt_dem.specs.Notes.{noted_by}
use Rattle.flt_dem.specs.DurablePart.{DurablePartView}
use Rattle.flt_dem.specs.Standing.{notes_of}
use Rattle.flt_dem.specs.Events.{EventsView}
use Rattle.flt_dem.specs.Calls.{StandsAfter}

-- The durable part, the debouncing of each event, which cycles are started, the signals, and which enable conditions are fulfilled.
pub record Manager : Type 0 where
  pub durable : DurablePartView
  pub debounces : List DebState
  pub started : List Bool
  pub signals : List ℕ
  pub conditions : List Bool

-- What it has of the events.
abbrev pub events_of : Manager → EventsView
events_of manager = record { durable = manager.durable; debounces = manager.debounces }

-- A manager that is what the base and the calls since power-up make of it.
pub record StandsFor (life : Start) (past : History) (manager : Manager) : Type 0 where
  pub events : StandsAfter life past (events_of manager)
  pub started : (cycle : ℕ) → cycle < 4 → slice_get manager.started cycle ≡ Some (is_started cycle past)
  pub signals : manager.signals ≡ signals past
  pub conditions : manager.conditions ≡ conditions past

-- Whether the cycle of the event was started.
abbrev pub is_cycle_started : Manager → ℕ → Bool
is_cycle_started manager event =
    unwrap_or (slice_get manager.started (unwrap_or (slice_get manager.durable.config.events.items event) no_event).cycle) false

-- Whether each condition is fulfilled that the event needs.
abbrev pub is_event_enabled : Manager → ℕ → Bool
is_event_enabled manager event =
    are_met (unwrap_or (slice_get manager.durable.config.events.items event) no_event).needs manager.conditions

-- What is seen of an event before a report, where the setting is on or off.
abbrev pub readiness_at : Bool → Manager → ℕ → Readiness
readiness_at setting manager event = record {
  setting = setting;
  started = is_cycle_started manager event;
  enabled = is_event_enabled manager event;
}

-- The debouncing and the state of an event are as before.
pub record KeepsEvent (event : ℕ) (before now : Manager) : Type 0 where
  pub debouncing : slice_get now.debounces event ≡ slice_get before.debounces event
  pub state : slice_get now.durable.states event ≡ slice_get before.durable.states event

-- The event is not of this operation cycle.
abbrev pub IsOfOtherCycle : Config → ℕ → ℕ → Type 0
IsOfOtherCycle config cycle event = IfSome (slice_get config.events.items event) (λ rules. rules.cycle ≢ cycle)

-- What a list has of the events of other cycles is as before.
abbrev pub KeepsOtherCycles : {A : Type 0} → Config → ℕ → List A → List A → Type 0
KeepsOtherCycles config cycle old new = (event : ℕ) → IsOfOtherCycle config cycle event → slice_get new event ≡ slice_get old event

-- ---- What a call makes of a manager, in words for contracts.

-- If it stands for some calls before the call, it stands for them and the call after it.
abbrev pub ManagerTakes : Op → Manager → Manager → Type 0
ManagerTakes op old new = (life : Start) (past : History) → StandsFor life past old → StandsFor life (op ∷ past) new

-- The same, where the first argument says whether the setting is on.
abbrev pub TakesUnder : Bool → Op → Manager → Manager → Type 0
TakesUnder setting op old new =
    (life : Start) (past : History) → setting ≡ not (is_setting_off past) → StandsFor life past old → StandsFor life (op ∷ past) new

-- It takes each request of a tester that clears this DTC.
abbrev pub TakesClear : (Start → ℕ) → Manager → Manager → Type 0
TakesClear dtc old new =
    (life : Start) (past : History) (tester : ℕ) (bytes : RequestBytes) → cleared_dtc (ops.Request tester bytes) ≡ Some (dtc life) →
    StandsFor life past old → StandsFor life (ops.Request tester bytes ∷ past) new

-- A value is what the base and the calls so far make of it.
abbrev pub IsValueOf : {A : Type 0} → (Start → History → A) → Manager → A → Type 0
IsValueOf told manager value = (life : Start) (past : History) → StandsFor life past manager → value ≡ told life past

-- The reply is the answer to the call.
abbrev pub ManagerAnswers : Op → Manager → Reply → Type 0
ManagerAnswers op manager reply = (life : Start) (past : History) → StandsFor life past manager → reply ≡ answer life past op

-- The same, where the first argument says whether the setting is on.
abbrev pub AnswersUnder : Bool → Op → Manager → Reply → Type 0
AnswersUnder setting op manager reply =
    (life : Start) (past : History) → setting ≡ not (is_setting_off past) → StandsFor life past manager → reply ≡ answer life past op

-- The other events without an entry are untouched.
abbrev pub LeavesOthers : ℕ → Manager → Manager → Type 0
LeavesOthers event old new = (other : ℕ) → other ≢ event → find (is_of_event other) old.durable.memory.entries ≡ None → KeepsEvent other old new

-- The states of the events that the calls so far make, by number.
abbrev pub states_after : Start → History → List EventState
states_after life past = (saved_after life past).events.items

-- The entry of an event that the calls so far make, if they make one.
abbrev pub entry_after : ℕ → Start → History → Option EntryState
entry_after event life past = entry_where life event (trace life past) (has_entry life event (trace life past))

-- The event that they note.
abbrev pub noted_after : Which → Start → History → Option ℕ
noted_after which life past = noted_by which (notes_of life (trace life past))
