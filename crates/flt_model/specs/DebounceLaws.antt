-- What holds of debouncing and of the fault detection counter (AUTOSAR Dem, in outline).
use Rattle.std.specs.Prelude.{◌≡◌, ◌↔◌, ℕ, pos, negsuc, ◌≤ℤ◌, Bool, true, false, not, ◌||◌, [], ◌∷◌, ◌++◌, Some}
use Rattle.flt_config.specs.declared.config.Debounce.{Debounce}
use Rattle.flt_config.specs.declared.config.Debounce.TheVariants.{Counter, Time}
use Rattle.flt_config.specs.Validity.{IsDebounceInRange}
use Rattle.flt_model.specs.declared.call.DebState.{DebState}
use Rattle.flt_model.specs.declared.call.DebState.TheVariants.{Count}
use Rattle.flt_model.specs.declared.call.Qualified.{Qualified}
use Rattle.flt_model.specs.declared.call.Qualified.TheVariants.{Passed, Failed}
use Rattle.flt_model.specs.Debounce.{Happenings, Ticked, IsOfKind, is_of, debounced, qualified, reached, detection_counter}

-- A counter stays between its thresholds, and a timer below its own.
abbrev pub DebouncingStaysInRange : Type 0
DebouncingStaysInRange = (rules : Debounce) (past : Happenings) → IsDebounceInRange rules → IsOfKind rules (debounced rules past)

-- The state at the threshold of a result.
abbrev pub at_threshold : Debounce → Qualified → DebState
at_threshold (Counter fail_at pass_at up down jump_up jump_down) Failed = Count fail_at
at_threshold (Counter fail_at pass_at up down jump_up jump_down) Passed = Count pass_at
at_threshold (Time fail pass) way = reached way

-- The fault detection counter is from -128 to 127, 127 exactly at the failed threshold, and -128 exactly at the passed one.
pub record TellsThresholds (rules : Debounce) (state : DebState) : Type 0 where
  pub least : negsuc 127 ≤ℤ detection_counter rules state
  pub greatest : detection_counter rules state ≤ℤ pos 127
  pub failed : (detection_counter rules state ≡ pos 127) ↔ (state ≡ at_threshold rules Failed)
  pub passed : (detection_counter rules state ≡ negsuc 127) ↔ (state ≡ at_threshold rules Passed)

abbrev pub DetectionCounterTellsThresholds : Type 0
DetectionCounterTellsThresholds = (rules : Debounce) (state : DebState) → IsDebounceInRange rules → IsOfKind rules state → TellsThresholds rules state

-- A run of this direction was interrupted among these: by a rest, or by a report in the other direction.
abbrev pub is_broken_off : Qualified → Happenings → Bool
is_broken_off way [] = false
is_broken_off way (happening ∷ past) = not (is_of way happening) || is_broken_off way past

-- Between two results that ticks qualify there is a rest, or a report in the other direction than the first result's.
abbrev pub TicksQualifyOnce : Type 0
TicksQualifyOnce = (rules : Debounce) (before between : Happenings) (ticks later : ℕ) (first second : Qualified) →
    qualified rules before (Ticked ticks) ≡ Some first → qualified rules (between ++ Ticked ticks ∷ before) (Ticked later) ≡ Some second →
    is_broken_off first between ≡ true
