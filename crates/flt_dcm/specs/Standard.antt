-- Six status bits in the words of ISO 14229-1, on what happened to an event since its last clear.
use Rattle.std.specs.Prelude.{◌≡◌, ◌⊎◌, ℕ, ◌<◌, Bool, true, false, not, ◌&&◌, ◌||◌, [], ◌∷◌}
use Rattle.flt_config.specs.Durable.{start_state}
use Rattle.flt_model.specs.Start.{Start, History, count, base_of}
use Rattle.flt_model.specs.Byte.{is_bit_set}
use Rattle.flt_model.specs.Mark.{Past, marks_of}
use Rattle.flt_model.specs.Mark.Mark.{Clear}
use Rattle.flt_model.specs.StatusLaws.{since_clear, this_cycle, has_failed, has_passed, last_failed, passed_cycle_since_failure}
use Rattle.flt_model.specs.Trace.{trace}
use Rattle.flt_dem.specs.Manager.{Manager}
use Rattle.flt_dem.specs.View.{event_seen}

-- A test was completed.
abbrev pub has_test : Past → Bool
has_test marks = has_failed marks || has_passed marks

-- The bits of a status byte, by the marks since the last clear.
pub record StandardBits (status : ℕ) (marks : Past) : Type 0 where
  -- testFailed: the most recent test failed.
  pub test_failed : is_bit_set status 0 ≡ last_failed marks
  -- testFailedThisOperationCycle: a test failed in this operation cycle.
  pub failed_this_cycle : is_bit_set status 1 ≡ has_failed (this_cycle marks)
  -- pendingDTC: a test failed, and no cycle that ended since had a passed test and no failed one.
  pub pending : is_bit_set status 2 ≡ (has_failed marks && not (passed_cycle_since_failure marks))
  -- testNotCompletedSinceLastClear: no test was completed.
  pub not_completed_since_clear : is_bit_set status 4 ≡ not (has_test marks)
  -- testFailedSinceLastClear: a test failed.
  pub failed_since_clear : is_bit_set status 5 ≡ has_failed marks
  -- testNotCompletedThisOperationCycle: no test was completed in this operation cycle.
  pub not_completed_this_cycle : is_bit_set status 6 ≡ not (has_test (this_cycle marks))

-- The event was cleared.
abbrev pub has_cleared : Past → Bool
has_cleared [] = false
has_cleared (Clear ∷ marks) = true
has_cleared (_ ∷ marks) = has_cleared marks

-- An event began as one that was never tested, or was cleared since.
abbrev pub IsFromStart : Start → ℕ → Past → Type 0
IsFromStart life event marks = (base_of life event ≡ start_state) ⊎ (has_cleared marks ≡ true)

-- The status byte of each such event says what the standard says.
abbrev pub SaysStandard : Start → History → Manager → Type 0
SaysStandard life past manager = (event : ℕ) → event < count life → IsFromStart life event (marks_of event (trace life past)) →
    StandardBits (event_seen manager event).state.status (since_clear (marks_of event (trace life past)))
