-- What holds of every event manager.
use Rattle.std.specs.Prelude.{◌≡◌, ◌≢◌, ℕ, ◌<◌, true, false, List, [], ◌∷◌, Option, Some, None, All, AllPairs}
use Rattle.flt_config.specs.declared.persist.EventState.{EventState}
use Rattle.flt_config.specs.Durable.{IsOfOtherEvent}
use Rattle.flt_model.specs.Start.{Start, History, count, base_of, event_of}
use Rattle.flt_model.specs.Mark.{Trace, Of, marks_of}
use Rattle.flt_model.specs.Mark.Mark.{Failed}
use Rattle.flt_model.specs.Status.{enters}
use Rattle.flt_model.specs.Entry.{frame}
use Rattle.flt_model.specs.Trace.{trace, with_failed}
use Rattle.flt_model.specs.Happening.{cleared_dtc, all_dtcs}
use Rattle.flt_model.specs.Session.{is_setting_off}
use Rattle.flt_model.specs.declared.call.Op.{Op}
use Rattle.flt_model.specs.declared.call.Op.TheVariants as ops
use Rattle.flt_memory.specs.Memory.{Memory}
use Rattle.flt_memory.specs.Store.{StoresAs}
use Rattle.flt_memory.specs.declared.memory.Stored.{Stored}
use Rattle.flt_dem.specs.Standing.{StatesStand, MemoryStands, with_outcome}
use Rattle.flt_model.specs.Answer.{view}
use Rattle.flt_dem.specs.Manager.{Manager, StandsFor}
use Rattle.flt_dem.specs.View.{manager_view}

-- An event is stored after its failure.
pub record Storing (life : Start) (event : ℕ) (signals : List ℕ) (before : Trace) (states : List EventState) (old new : Memory) (outcome : Stored) : Type 0 where
  pub configured : event < count life
  pub entered : enters (base_of life event) (marks_of event before) ≡ true
  pub states_stand : StatesStand life (Of event Failed signals ∷ before) states
  pub memory_stands : MemoryStands life before old
  pub distinct : AllPairs IsOfOtherEvent old.entries
  pub within : All (λ entry. entry.event < count life) old.entries
  pub stored : StoresAs life.config states event (frame life event signals) old new outcome

-- The entries after storing are those that the marks decide.
abbrev pub StoringFollowsMarks : Type 0
StoringFollowsMarks = (life : Start) (event : ℕ) (signals : List ℕ) (before : Trace) (states : List EventState) (old new : Memory) (outcome : Stored) →
    Storing life event signals before states old new outcome →
    (with_failed life signals event before ≡ with_outcome event signals outcome (Of event Failed signals ∷ before))
    × MemoryStands life (with_failed life signals event before) new

-- A clear of no event, or of a DTC that none has.
abbrev pub ClearsNothing : Start → Option ℕ → Type 0
ClearsNothing life None = Unit {0}
ClearsNothing life (Some dtc) = (dtc ≢ all_dtcs) × ((event : ℕ) → event < count life → dtc ≢ (event_of life event).dtc)

-- A call in which the event manager takes no part: a show, a snapshot, a save, and a request that clears no event.
abbrev pub IsIdle : Start → Op → Type 0
IsIdle life (ops.Request tester bytes) = ClearsNothing life (cleared_dtc (ops.Request tester bytes))
IsIdle life (ops.Show event) = Unit {0}
IsIdle life ops.Snapshot = Unit {0}
IsIdle life (ops.Saved generation) = Unit {0}
IsIdle life _ = ⊥

-- A manager that stands for some calls stands for them and such a call too.
abbrev pub IdleCallsChangeNothing : Type 0
IdleCallsChangeNothing = (life : Start) (past : History) (manager : Manager) (op : Op) → IsIdle life op → StandsFor life past manager
    → StandsFor life (op ∷ past) manager

-- No tester made a request.
abbrev pub HasNoRequest : History → Type 0
HasNoRequest [] = Unit {0}
HasNoRequest (ops.Request tester bytes ∷ past) = ⊥
HasNoRequest (_ ∷ past) = HasNoRequest past

-- Then the setting is on.
abbrev pub SettingIsOnWithoutRequests : Type 0
SettingIsOnWithoutRequests = (past : History) → HasNoRequest past → is_setting_off past ≡ false

-- What a tester may read is what the calls so far make of it.
abbrev pub ViewIsTold : Type 0
ViewIsTold = (life : Start) (past : History) (manager : Manager) → StandsFor life past manager → manager_view manager ≡ view life past (trace life past)
