-- The durable state of an event as its marks and a base decide it (ISO 14229-1, DTC status bits; the counts, healing
-- and aging are this profile's).
use Rattle.std.specs.Prelude.{ℕ, ◌+◌, min, nat_lt, nat_le, ◌==◌, Bool, true, false, not, ◌&&◌, if◌then◌else◌, ◌∷◌, Some, None}
use Rattle.flt_model.specs.Mark.{Past, Row, Kind, Restart, decided, count_since}
use Rattle.flt_model.specs.Mark.Mark.{Failed, Passed, Cycle, Clear, Aged, Displaced}
use Rattle.flt_config.specs.declared.config.EventCfg.{EventCfg}
use Rattle.flt_config.specs.declared.persist.EventState.{EventState}
use Rattle.flt_model.specs.declared.status.Status.{Status}
use Rattle.flt_model.specs.Byte.{byte_of, is_bit_set}

-- ---- bits that only the marks decide

-- Bit 0, testFailed: the result of the last test.
abbrev pub test_failed_row : Row
test_failed_row past Failed = Some true
test_failed_row past Passed = Some false
test_failed_row past Clear = Some false
test_failed_row past _ = None

-- Bit 1, testFailedThisOperationCycle.
abbrev pub failed_this_cycle_row : Row
failed_this_cycle_row past Failed = Some true
failed_this_cycle_row past Cycle = Some false
failed_this_cycle_row past Clear = Some false
failed_this_cycle_row past _ = None

-- Bit 4, testNotCompletedSinceLastClear.
abbrev pub not_completed_since_clear_row : Row
not_completed_since_clear_row past Clear = Some true
not_completed_since_clear_row past Failed = Some false
not_completed_since_clear_row past Passed = Some false
not_completed_since_clear_row past _ = None

-- Bit 5, testFailedSinceLastClear.
abbrev pub failed_since_clear_row : Row
failed_since_clear_row past Failed = Some true
failed_since_clear_row past Clear = Some false
failed_since_clear_row past _ = None

-- Bit 6, testNotCompletedThisOperationCycle.
abbrev pub not_completed_this_cycle_row : Row
not_completed_this_cycle_row past Cycle = Some true
not_completed_this_cycle_row past Clear = Some true
not_completed_this_cycle_row past Failed = Some false
not_completed_this_cycle_row past Passed = Some false
not_completed_this_cycle_row past _ = None

module _ (base : EventState) where
  -- The last test failed.
  abbrev pub test_failed : Past → Bool
  test_failed past = decided test_failed_row (is_bit_set base.status 0) past

  -- A test failed in this operation cycle.
  abbrev pub failed_this_cycle : Past → Bool
  failed_this_cycle past = decided failed_this_cycle_row (is_bit_set base.status 1) past

  -- No test was completed since the last clear.
  abbrev pub not_completed_since_clear : Past → Bool
  not_completed_since_clear past = decided not_completed_since_clear_row (is_bit_set base.status 4) past

  -- A test failed since the last clear.
  abbrev pub failed_since_clear : Past → Bool
  failed_since_clear past = decided failed_since_clear_row (is_bit_set base.status 5) past

  -- No test was completed in this operation cycle.
  abbrev pub not_completed_this_cycle : Past → Bool
  not_completed_this_cycle past = decided not_completed_this_cycle_row (is_bit_set base.status 6) past

  -- ---- clean cycles: tested, and never failed

  -- A cycle that ends here is clean: it was tested, and no test failed.
  abbrev pub ends_clean : Past → Bool
  ends_clean past = not (failed_this_cycle past) && not (not_completed_this_cycle past)

  -- The end of a clean cycle.
  abbrev pub is_clean_cycle : Kind
  is_clean_cycle past Cycle = ends_clean past
  is_clean_cycle past _ = false

  -- Bit 2, pendingDTC: only a clean cycle, or a clear, clears it.
  abbrev pub pending_row : Row
  pending_row past Failed = Some true
  pending_row past Cycle = if ends_clean past then Some false else None
  pending_row past Clear = Some false
  pending_row past _ = None

  -- A test failed, and no clean cycle ended since.
  abbrev pub pending : Past → Bool
  pending past = decided pending_row (is_bit_set base.status 2) past

  -- ---- the failed count, and what it confirms

  -- A failure counts once a cycle.
  abbrev pub is_first_failure_of_cycle : Kind
  is_first_failure_of_cycle past Failed = not (failed_this_cycle past)
  is_first_failure_of_cycle past _ = false

  -- A clean cycle or a clear resets the failed count.
  abbrev pub restarts_failed : Restart
  restarts_failed past Cycle = if ends_clean past then Some 0 else None
  restarts_failed past Clear = Some 0
  restarts_failed past _ = None

  -- The number of cycles in which the event failed since the last clean one, at most 255.
  abbrev pub failed_count : Past → ℕ
  failed_count past = min 255 (count_since restarts_failed is_first_failure_of_cycle base.failed past)

  -- Bit 3, confirmedDTC: a failure at which the failed count is at the threshold sets it.
  abbrev pub confirmed_row : EventCfg → Row
  confirmed_row event past Failed = if nat_le event.confirm (failed_count (Failed ∷ past)) then Some true else None
  confirmed_row event past Aged = Some false
  confirmed_row event past Displaced = Some false
  confirmed_row event past Clear = Some false
  confirmed_row event past _ = None

  -- Enough cycles failed, and the event neither aged nor was displaced or cleared since.
  abbrev pub confirmed : EventCfg → Past → Bool
  confirmed event past = decided (confirmed_row event) (is_bit_set base.status 3) past

  -- ---- the clean count, and what it heals and ages

  -- A failure or a clear resets the clean count.
  abbrev pub restarts_clean : Restart
  restarts_clean past Failed = Some 0
  restarts_clean past Clear = Some 0
  restarts_clean past _ = None

  -- The number of clean cycles that ended since the last failure, at most 510.
  abbrev pub clean_count : Past → ℕ
  clean_count past = min 510 (count_since restarts_clean is_clean_cycle base.clean past)

  -- A failure lights the indicator if the event has one and is confirmed.
  abbrev pub lit_row : EventCfg → Row
  lit_row event past Failed = Some (event.indicator && confirmed event (Failed ∷ past))
  lit_row event past Aged = Some false
  lit_row event past Displaced = Some false
  lit_row event past Clear = Some false
  lit_row event past _ = None

  -- The event lights the warning indicator until it heals.
  abbrev pub lit : EventCfg → Past → Bool
  lit event past = decided (lit_row event) base.lit past

  -- Bit 7, warningIndicatorRequested: the event is lit, and has not healed.
  abbrev pub indicator_requested : EventCfg → Past → Bool
  indicator_requested event past = lit event past && nat_lt (clean_count past) event.heal

  -- ---- what else a mark means

  -- A failure after these marks changes the test result.
  abbrev pub enters : Past → Bool
  enters past = not (test_failed past)

  -- A failure after these marks confirms the event.
  abbrev pub confirms : EventCfg → Past → Bool
  confirms event past = not (confirmed event past) && confirmed event (Failed ∷ past)

  -- The number of clean cycles that age the event.
  abbrev pub aging_threshold : EventCfg → Past → ℕ
  aging_threshold event past = if lit event past then event.heal + event.age else event.age

  -- The end of a cycle after these marks ages the event: the clean count reaches the threshold.
  abbrev pub ages : EventCfg → Past → Bool
  ages event past =
      nat_lt (clean_count past) (clean_count (Cycle ∷ past)) && (clean_count (Cycle ∷ past) == aging_threshold event past)

  -- ---- the whole

  -- All bits.
  abbrev pub status : EventCfg → Past → Status
  status event past = record {
    test_failed = test_failed past;
    failed_this_cycle = failed_this_cycle past;
    pending = pending past;
    confirmed = confirmed event past;
    not_completed_since_clear = not_completed_since_clear past;
    failed_since_clear = failed_since_clear past;
    not_completed_this_cycle = not_completed_this_cycle past;
    indicator_requested = indicator_requested event past;
  }

  -- The state that the base and the marks after it decide.
  abbrev pub durable : EventCfg → Past → EventState
  durable event past = record {
    status = byte_of (status event past);
    failed = failed_count past;
    clean = clean_count past;
    lit = lit event past;
  }
