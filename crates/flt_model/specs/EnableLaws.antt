-- What holds of enable conditions (this profile).
use Rattle.std.specs.Prelude.{◌≡◌, ◌↔◌, ℕ, Bool, true, false, [], ◌∷◌, ◌++◌, None}
use Rattle.flt_model.specs.Start.{Start, History, event_of}
use Rattle.flt_model.specs.Request.{RequestBytes}
use Rattle.flt_model.specs.Session.{is_setting_off}
use Rattle.flt_model.specs.Happening.{happening_of, happenings, is_started, is_enabled}
use Rattle.flt_model.specs.Answer.{answer}
use Rattle.flt_model.specs.Durable.{saved_after}
use Rattle.flt_model.specs.declared.call.Op.{Op}
use Rattle.flt_model.specs.declared.call.Op.TheVariants as ops
use Rattle.flt_model.specs.declared.call.Report.{Report}
use Rattle.flt_model.specs.Reply.{Reply}
use Rattle.flt_model.specs.declared.call.ReplyOf.TheVariants.{Taken, Ignored}
use Rattle.flt_model.specs.declared.call.Cause.TheVariants.{SettingOff, NotStarted, NotEnabled}

-- ---- the answer to a report

-- A reply that names the first thing that is wrong: the setting, then the cycle, and the conditions last.
pub record NamesFirstCause (off started enabled : Bool) (reply : Reply) : Type 0 where
  pub setting : (reply ≡ Ignored SettingOff) ↔ (off ≡ true)
  pub cycle : (reply ≡ Ignored NotStarted) ↔ ((off ≡ false) × (started ≡ false))
  pub condition : (reply ≡ Ignored NotEnabled) ↔ ((off ≡ false) × (started ≡ true) × (enabled ≡ false))
  pub taken : (reply ≡ Taken) ↔ ((off ≡ false) × (started ≡ true) × (enabled ≡ true))

-- So does the answer to a report.
abbrev pub CausesComeInOrder : Type 0
CausesComeInOrder = (life : Start) (event : ℕ) (past : History) (report : Report) →
    NamesFirstCause (is_setting_off past) (is_started (event_of life event).cycle past) (is_enabled life event past)
    (answer life past (ops.Report event report))

-- ---- a disabled event

-- While an event is disabled, reports and ticks have no effect on it.
pub record IsLeftByReportsAndTicks (life : Start) (event : ℕ) (past : History) : Type 0 where
  pub reports : (other : ℕ) (report : Report) → happening_of life event past (ops.Report other report) ≡ None
  pub ticks : (ticks : ℕ) → happening_of life event past (ops.Tick ticks) ≡ None

abbrev pub DisabledEventsAreLeft : Type 0
DisabledEventsAreLeft = (life : Start) (event : ℕ) (past : History) → is_enabled life event past ≡ false → IsLeftByReportsAndTicks life event past

-- What each of these calls, newest first, has to be: the event is disabled at a report and at ticks, a cycle is that of other
-- events, and a request does not clear the event. All other calls may come between.
abbrev pub IsDisabledThrough : Start → ℕ → History → History → Type 0
IsDisabledThrough life event past [] = Unit {0}
IsDisabledThrough life event past (ops.Report other report ∷ between) = (is_enabled life event (between ++ past) ≡ false) × IsDisabledThrough life event past between
IsDisabledThrough life event past (ops.Tick ticks ∷ between) = (is_enabled life event (between ++ past) ≡ false) × IsDisabledThrough life event past between
IsDisabledThrough life event past (ops.Cycle cycle ∷ between) = (happening_of life event (between ++ past) (ops.Cycle cycle) ≡ None) × IsDisabledThrough life event past between
IsDisabledThrough life event past (ops.Request tester bytes ∷ between) = (happening_of life event (between ++ past) (ops.Request tester bytes) ≡ None) × IsDisabledThrough life event past between
IsDisabledThrough life event past (_ ∷ between) = IsDisabledThrough life event past between

-- Such calls do not add to what happened to it, so its debouncing continues from the same state.
abbrev pub DisabledEventsGoOnWhereTheyStood : Type 0
DisabledEventsGoOnWhereTheyStood = (life : Start) (event : ℕ) (past between : History) → IsDisabledThrough life event past between →
    happenings life event (between ++ past) ≡ happenings life event past

-- ---- conditions that make no difference

-- An event that needs no condition is enabled.
abbrev pub EventsWithoutNeedsAreEnabled : Type 0
EventsWithoutNeedsAreEnabled = (life : Start) (event : ℕ) (past : History) → (event_of life event).needs ≡ 0 → is_enabled life event past ≡ true

-- No call is on a condition.
abbrev pub HasNoEnable : History → Type 0
HasNoEnable [] = Unit {0}
HasNoEnable (ops.Enable condition fulfilled ∷ past) = ⊥
HasNoEnable (_ ∷ past) = HasNoEnable past

-- Then each event is enabled, whatever it needs.
abbrev pub EventsAreEnabledAtFirst : Type 0
EventsAreEnabledAtFirst = (life : Start) (event : ℕ) (past : History) → HasNoEnable past → is_enabled life event past ≡ true

-- No event needs a condition.
abbrev pub NeedsNothing : Start → Type 0
NeedsNothing life = (event : ℕ) → (event_of life event).needs ≡ 0

-- The calls other than those on conditions.
abbrev pub without_conditions : History → History
without_conditions [] = []
without_conditions (ops.Enable condition fulfilled ∷ past) = without_conditions past
without_conditions (op ∷ past) = op ∷ without_conditions past

-- Each call is answered as if no call on a condition had been made, and the durable state is that of the others.
pub record IsAsWithoutConditions (life : Start) (past : History) : Type 0 where
  pub answers : (op : Op) → answer life past op ≡ answer life (without_conditions past) op
  pub state : saved_after life past ≡ saved_after life (without_conditions past)

-- This holds if no event needs a condition.
abbrev pub ConditionsThatNobodyNeeds : Type 0
ConditionsThatNobodyNeeds = (life : Start) (past : History) → NeedsNothing life → IsAsWithoutConditions life past

-- Whether conditions are fulfilled makes no difference to what a cycle and a request are for an event: a disabled event takes the
-- end of its cycle and is cleared as any other.
pub record EndsAndClearsAreLeft (life : Start) (event : ℕ) (past : History) : Type 0 where
  pub cycles : (cycle : ℕ) → happening_of life event past (ops.Cycle cycle) ≡ happening_of life event (without_conditions past) (ops.Cycle cycle)
  pub requests : (tester : ℕ) (bytes : RequestBytes) →
      happening_of life event past (ops.Request tester bytes) ≡ happening_of life event (without_conditions past) (ops.Request tester bytes)

-- This holds of all events after all calls.
abbrev pub DisabledEventsAreEndedAndCleared : Type 0
DisabledEventsAreEndedAndCleared = (life : Start) (event : ℕ) (past : History) → EndsAndClearsAreLeft life event past
