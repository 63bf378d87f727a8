-- Calls in which the event manager takes no part, and histories without a request.
use Rattle.std.proofs.Common.{◌≡◌, ◌∙◌, ℕ, ◌<◌, nat_eq, Bool, true, false, ◌||◌, cond, [], ◌∷◌, Option, Some, None, unwrap_or, refl, ap}
use Rattle.std.proofs.lemmas.Bool.{ne_eqb}
use Rattle.flt_model.specs.Start.{Start, History, count, event_of}
use Rattle.flt_model.specs.Mark.{Trace, AllCleared}
use Rattle.flt_model.specs.Happening.{happening_of_clear, cleared_where, cleared_dtc, all_dtcs}
use Rattle.flt_model.specs.Session.{holds_off, is_extended, is_setting_off}
use Rattle.flt_model.specs.Trace.{with_clear}
use Rattle.flt_model.specs.declared.call.Op.{Op}
use Rattle.flt_model.specs.declared.call.Op.TheVariants as ops
use Rattle.flt_dem.specs.Manager.{Manager, StandsFor, events_of}
use Rattle.flt_dem.specs.Laws.{IsIdle, ClearsNothing, HasNoRequest}
use Rattle.flt_dem.proofs.CallLemmas.{stands_none}

module _ (life : Start) where
  clears_no_event : (clears : Option ℕ) (event : ℕ) → event < count life → ClearsNothing life clears → happening_of_clear life event clears ≡ None
  clears_no_event None event within nothing = refl
  clears_no_event (Some dtc) event within nothing =
      ap (λ b. cleared_where (b || nat_eq dtc (event_of life event).dtc)) (ne_eqb dtc all_dtcs nothing.0)
      ∙ ap (λ b. cleared_where b) (ne_eqb dtc (event_of life event).dtc (nothing.1 event within))

  clears_not_all : (clears : Option ℕ) (marks : Trace) → ClearsNothing life clears → with_clear clears marks ≡ marks
  clears_not_all None marks nothing = refl
  clears_not_all (Some dtc) marks nothing = ap (λ b. cond b (AllCleared ∷ marks) marks) (ne_eqb dtc all_dtcs nothing.0)

  pub stands_idle : (past : History) (manager : Manager) (op : Op) → IsIdle life op → StandsFor life past manager → StandsFor life (op ∷ past) manager
  stands_idle past manager (ops.Signal index value) idle s = absurd idle
  stands_idle past manager (ops.Enable condition fulfilled) idle s = absurd idle
  stands_idle past manager (ops.Report event report) idle s = absurd idle
  stands_idle past manager (ops.Tick ticks) idle s = absurd idle
  stands_idle past manager (ops.Cycle cycle) idle s = absurd idle
  stands_idle past manager (ops.Request tester bytes) idle s = record {
    events = stands_none life past (ops.Request tester bytes) (events_of manager)
        (λ marks. clears_not_all (cleared_dtc (ops.Request tester bytes)) marks idle)
        (λ event within. clears_no_event (cleared_dtc (ops.Request tester bytes)) event within idle) s.events;
    started = s.started;
    signals = s.signals;
    conditions = s.conditions;
  }
  stands_idle past manager (ops.Show event) idle s = record {
    events = stands_none life past (ops.Show event) (events_of manager) (λ marks. refl) (λ other within. refl) s.events;
    started = s.started;
    signals = s.signals;
    conditions = s.conditions;
  }
  stands_idle past manager ops.Snapshot idle s = record {
    events = stands_none life past ops.Snapshot (events_of manager) (λ marks. refl) (λ other within. refl) s.events;
    started = s.started;
    signals = s.signals;
    conditions = s.conditions;
  }
  stands_idle past manager (ops.Saved generation) idle s = record {
    events = stands_none life past (ops.Saved generation) (events_of manager) (λ marks. refl) (λ other within. refl) s.events;
    started = s.started;
    signals = s.signals;
    conditions = s.conditions;
  }

-- ---- the setting without requests

held_row : (test before : Bool) → before ≡ false → unwrap_or (cond test None (Some false)) before ≡ false
held_row true before off = off
held_row false before off = refl

holds_nothing : (tester : ℕ) (past : History) → HasNoRequest past → holds_off tester past ≡ false
holds_nothing tester [] none = refl
holds_nothing tester (ops.Signal index value ∷ past) none = holds_nothing tester past none
holds_nothing tester (ops.Enable condition fulfilled ∷ past) none = holds_nothing tester past none
holds_nothing tester (ops.Report event report ∷ past) none = holds_nothing tester past none
holds_nothing tester (ops.Tick ticks ∷ past) none = held_row (is_extended tester (ops.Tick ticks ∷ past)) (holds_off tester past) (holds_nothing tester past none)
holds_nothing tester (ops.Cycle cycle ∷ past) none = holds_nothing tester past none
holds_nothing tester (ops.Request other bytes ∷ past) none = absurd none
holds_nothing tester (ops.Show event ∷ past) none = holds_nothing tester past none
holds_nothing tester (ops.Snapshot ∷ past) none = holds_nothing tester past none
holds_nothing tester (ops.Saved generation ∷ past) none = holds_nothing tester past none

pub setting_on : (past : History) → HasNoRequest past → is_setting_off past ≡ false
setting_on past none =
    rw (holds_nothing 0 past none, holds_nothing 1 past none, holds_nothing 2 past none, holds_nothing 3 past none) refl
