-- The effect of the reports, ticks and rests of an event (AUTOSAR Dem, debouncing by counter and by time).
use Rattle.std.specs.Prelude.{ℕ, ◌+◌, ◌*◌, ◌/◌, unsigned_abs, int_lt, ◌<◌, nat_le, ℤ, pos, neg_ℤ, ◌+ℤ◌, ◌-ℤ◌, ◌≤ℤ◌, Bool, true, false, ◌||◌, if◌then◌else◌, List, [], ◌∷◌, Option, Some, None, not, ◌&&◌}
use Rattle.std.specs.Int.{int_min, int_max}
use Rattle.std.specs.Ordering.{int_eq}
use Rattle.flt_model.specs.declared.call.Report.{Report}
use Rattle.flt_model.specs.declared.call.Report.TheVariants as reports
use Rattle.flt_model.specs.declared.call.Qualified.{Qualified}
use Rattle.flt_model.specs.declared.call.Qualified.TheVariants.{Passed, Failed}
use Rattle.flt_config.specs.declared.config.Debounce.{Debounce}
use Rattle.flt_config.specs.declared.config.Debounce.TheVariants.{Counter, Time}
use Rattle.flt_model.specs.declared.call.DebState.{DebState}
use Rattle.flt_model.specs.declared.call.DebState.TheVariants.{Count, Idle, Failing, Passing, AtFailed, AtPassed}

-- What happens to an event from outside.
pub data Happening : Type 0 where
  -- A report that is not ignored.
  Reported : Report → Happening
  -- Ticks of time with the setting on.
  Ticked : ℕ → Happening
  -- The end of its cycle, which puts its debouncing at rest.
  Ended : Happening
  -- A clear that reaches it, which puts its debouncing at rest.
  Cleared : Happening

-- What happened to an event, newest first.
abbrev pub Happenings : Type 0
Happenings = List Happening

-- ---- by a counter

-- The value to which a jump raises a lower one.
abbrev pub lifted : Option ℤ → ℤ → ℤ
lifted None value = value
lifted (Some jump) value = int_max value jump

-- The value to which a jump lowers a higher one.
abbrev pub lowered : Option ℤ → ℤ → ℤ
lowered None value = value
lowered (Some jump) value = int_min value jump

-- The counter after a report.
abbrev pub counted : Debounce → Report → ℤ → ℤ
counted (Counter fail_at pass_at up down jump_up jump_down) reports.Failed value = fail_at
counted (Counter fail_at pass_at up down jump_up jump_down) reports.Passed value = pass_at
counted (Counter fail_at pass_at up down jump_up jump_down) reports.PreFailed value = int_min (lifted jump_up value +ℤ up) fail_at
counted (Counter fail_at pass_at up down jump_up jump_down) reports.PrePassed value = int_max (lowered jump_down value -ℤ down) pass_at
counted (Time fail pass) report value = value

-- The counter after what happened.
abbrev pub counter : Debounce → Happenings → ℤ
counter rules [] = pos 0
counter rules (Ended ∷ past) = pos 0
counter rules (Cleared ∷ past) = pos 0
counter rules (Ticked ticks ∷ past) = counter rules past
counter rules (Reported report ∷ past) = counted rules report (counter rules past)

-- ---- by time

-- The direction of a report.
abbrev pub direction : Report → Qualified
direction reports.Passed = Passed
direction reports.PrePassed = Passed
direction reports.Failed = Failed
direction reports.PreFailed = Failed

-- Two directions are the same.
abbrev pub is_same : Qualified → Qualified → Bool
is_same Passed Passed = true
is_same Failed Failed = true
is_same Passed Failed = false
is_same Failed Passed = false

-- The direction of the last report since the last rest.
abbrev pub last_direction : Happenings → Option Qualified
last_direction [] = None
last_direction (Ended ∷ past) = None
last_direction (Cleared ∷ past) = None
last_direction (Ticked ticks ∷ past) = last_direction past
last_direction (Reported report ∷ past) = Some (direction report)

-- What happened continues a run of this direction: a report in it, or time.
abbrev pub is_of : Qualified → Happening → Bool
is_of way (Reported report) = is_same way (direction report)
is_of way (Ticked ticks) = true
is_of way Ended = false
is_of way Cleared = false

-- What happened, if the newest continues them.
abbrev pub joined : Bool → Happening → Happenings → Happenings
joined true happening happenings = happening ∷ happenings
joined false happening happenings = []

-- What happened back to the last rest or report in the other direction.
abbrev pub run : Qualified → Happenings → Happenings
run way [] = []
run way (happening ∷ past) = joined (is_of way happening) happening (run way past)

-- There is a report among these.
abbrev pub has_report : Happenings → Bool
has_report [] = false
has_report (Reported report ∷ past) = true
has_report (Ticked ticks ∷ past) = has_report past
has_report (Ended ∷ past) = has_report past
has_report (Cleared ∷ past) = has_report past

-- Whether a report among them needs no debouncing.
abbrev pub has_definite : Happenings → Bool
has_definite [] = false
has_definite (Reported reports.Failed ∷ past) = true
has_definite (Reported reports.Passed ∷ past) = true
has_definite (Reported reports.PreFailed ∷ past) = has_definite past
has_definite (Reported reports.PrePassed ∷ past) = has_definite past
has_definite (Ticked ticks ∷ past) = has_definite past
has_definite (Ended ∷ past) = has_definite past
has_definite (Cleared ∷ past) = has_definite past

-- The ticks since the first report among them.
abbrev pub elapsed : Happenings → ℕ
elapsed [] = 0
elapsed (Ticked ticks ∷ past) = if has_report past then elapsed past + ticks else 0
elapsed (Reported report ∷ past) = elapsed past
elapsed (Ended ∷ past) = elapsed past
elapsed (Cleared ∷ past) = elapsed past

-- These reach a threshold: by a report that needs no debouncing, or by time.
abbrev pub is_at_threshold : ℕ → Happenings → Bool
is_at_threshold threshold happenings = has_definite happenings || nat_le threshold (elapsed happenings)

-- How long a run in a direction lasts until it qualifies.
abbrev pub threshold : ℕ → ℕ → Qualified → ℕ
threshold fail pass Failed = fail
threshold fail pass Passed = pass

-- The last run of this direction has reached its threshold.
abbrev pub is_reached : ℕ → ℕ → Qualified → Happenings → Bool
is_reached fail pass way happenings = is_at_threshold (threshold fail pass way) (run way happenings)

-- A run of this direction that has reached its threshold.
abbrev pub reached : Qualified → DebState
reached Failed = AtFailed
reached Passed = AtPassed

-- A run of this direction that lasts for these ticks.
abbrev pub running : Qualified → ℕ → DebState
running Failed ticks = Failing ticks
running Passed ticks = Passing ticks

-- The state of a timer, if the last report had this direction.
abbrev pub timed : ℕ → ℕ → Happenings → Option Qualified → DebState
timed fail pass happenings None = Idle
timed fail pass happenings (Some way) = if is_reached fail pass way happenings then reached way else running way (elapsed (run way happenings))

-- ---- the whole

-- The state of the debouncing after what happened.
abbrev pub debounced : Debounce → Happenings → DebState
debounced (Counter fail_at pass_at up down jump_up jump_down) happenings = Count (counter (Counter fail_at pass_at up down jump_up jump_down) happenings)
debounced (Time fail pass) happenings = timed fail pass happenings (last_direction happenings)

-- What a report qualifies that leaves a counter at a threshold.
abbrev pub qualified_at : ℤ → ℤ → ℤ → Option Qualified
qualified_at fail_at pass_at value =
    if int_eq value fail_at then Some Failed else (if int_eq value pass_at then Some Passed else None)

-- A tick qualifies a run that it brings to its threshold.
abbrev pub qualified_by_tick : ℕ → ℕ → ℕ → Happenings → Option Qualified → Option Qualified
qualified_by_tick fail pass ticks past None = None
qualified_by_tick fail pass ticks past (Some way) =
    if not (is_reached fail pass way past) && is_reached fail pass way (Ticked ticks ∷ past) then Some way else None

-- What a happening qualifies, given what happened before it.
abbrev pub qualified : Debounce → Happenings → Happening → Option Qualified
qualified (Counter fail_at pass_at up down jump_up jump_down) past (Reported report) =
    qualified_at fail_at pass_at (counter (Counter fail_at pass_at up down jump_up jump_down) (Reported report ∷ past))
qualified (Counter fail_at pass_at up down jump_up jump_down) past _ = None
qualified (Time fail pass) past (Reported reports.Failed) = Some Failed
qualified (Time fail pass) past (Reported reports.Passed) = Some Passed
qualified (Time fail pass) past (Ticked ticks) = qualified_by_tick fail pass ticks past (last_direction past)
qualified (Time fail pass) past _ = None

-- ---- ranges

-- A state of the debouncing's kind, within its thresholds.
abbrev pub IsOfKind : Debounce → DebState → Type 0
IsOfKind (Counter fail_at pass_at up down jump_up jump_down) (Count value) = (pass_at ≤ℤ value) × (value ≤ℤ fail_at)
IsOfKind (Counter fail_at pass_at up down jump_up jump_down) _ = ⊥
IsOfKind (Time fail pass) Idle = Unit {0}
IsOfKind (Time fail pass) (Failing ticks) = ticks < fail
IsOfKind (Time fail pass) (Passing ticks) = ticks < pass
IsOfKind (Time fail pass) AtFailed = Unit {0}
IsOfKind (Time fail pass) AtPassed = Unit {0}
IsOfKind (Time fail pass) (Count value) = ⊥

-- ---- the fault detection counter

-- The part of a whole on a scale.
abbrev pub scaled : ℕ → ℕ → ℕ → ℕ
scaled scale part whole = part * scale / whole

-- From -128 (passed) to 127 (failed).
abbrev pub detection_counter : Debounce → DebState → ℤ
detection_counter (Counter fail_at pass_at up down jump_up jump_down) (Count value) =
    if int_lt (pos 0) value then pos (scaled 127 (unsigned_abs value) (unsigned_abs fail_at))
    else neg_ℤ (pos (scaled 128 (unsigned_abs value) (unsigned_abs pass_at)))
detection_counter (Time fail pass) (Failing ticks) = pos (scaled 127 ticks fail)
detection_counter (Time fail pass) (Passing ticks) = neg_ℤ (pos (scaled 128 ticks pass))
detection_counter rules AtFailed = pos 127
detection_counter rules AtPassed = neg_ℤ (pos 128)
detection_counter rules _ = pos 0
