-- What holds of the status bits and the counts, in the standard's words (ISO 14229-1, DTC status bits).
use Rattle.std.specs.Prelude.{◌≡◌, nat_lt, Bool, true, false, not, ◌&&◌, ◌||◌, [], ◌∷◌}
use Rattle.flt_config.specs.declared.config.EventCfg.{EventCfg}
use Rattle.flt_config.specs.declared.persist.EventState.{EventState}
use Rattle.flt_config.specs.Durable.{start_state}
use Rattle.flt_model.specs.declared.status.Status.{Status}
use Rattle.flt_model.specs.Byte.{byte_of, is_bit_set, status_of}
use Rattle.flt_model.specs.Mark.{Past}
use Rattle.flt_model.specs.Mark.Mark.{Failed, Passed, Cycle, Clear}
use Rattle.flt_model.specs.Status.{test_failed, pending, durable}

-- The bits are read from the byte as they were put there.
abbrev pub ByteTellsBits : Type 0
ByteTellsBits = (status : Status) → status_of (byte_of status) ≡ status

-- An event that is lit is confirmed, if that holds of the base.
abbrev pub LitIsConfirmed : Type 0
LitIsConfirmed = (base : EventState) (event : EventCfg) (past : Past) →
    (base.lit ≡ true → is_bit_set base.status 3 ≡ true) →
    (durable base event past).lit ≡ true → is_bit_set (durable base event past).status 3 ≡ true

-- warningIndicatorRequested is set if and only if the event is lit and has not healed.
abbrev pub IndicatorIsLit : Type 0
IndicatorIsLit = (base : EventState) (event : EventCfg) (past : Past) →
    is_bit_set (durable base event past).status 7 ≡ ((durable base event past).lit && nat_lt (durable base event past).clean event.heal)

-- ---- the bits of the last test and of the cycle, from the start state

-- The marks since the last clear.
abbrev pub since_clear : Past → Past
since_clear [] = []
since_clear (Clear ∷ past) = []
since_clear (mark ∷ past) = mark ∷ since_clear past

-- The marks since the last end of a cycle.
abbrev pub this_cycle : Past → Past
this_cycle [] = []
this_cycle (Cycle ∷ past) = []
this_cycle (mark ∷ past) = mark ∷ this_cycle past

-- There is a failed test.
abbrev pub has_failed : Past → Bool
has_failed [] = false
has_failed (Failed ∷ past) = true
has_failed (_ ∷ past) = has_failed past

-- There is a passed test.
abbrev pub has_passed : Past → Bool
has_passed [] = false
has_passed (Passed ∷ past) = true
has_passed (_ ∷ past) = has_passed past

-- There is a test, and the last one failed.
abbrev pub last_failed : Past → Bool
last_failed [] = false
last_failed (Failed ∷ past) = true
last_failed (Passed ∷ past) = false
last_failed (_ ∷ past) = last_failed past

-- Some cycle that ended after the last failure had a passed test and no failed one.
abbrev pub passed_cycle_since_failure : Past → Bool
passed_cycle_since_failure [] = false
passed_cycle_since_failure (Failed ∷ past) = false
passed_cycle_since_failure (Cycle ∷ past) =
    (has_passed (this_cycle past) && not (has_failed (this_cycle past))) || passed_cycle_since_failure past
passed_cycle_since_failure (_ ∷ past) = passed_cycle_since_failure past

-- testFailed says that the last test since the last clear failed.
abbrev pub TestFailedIsLastResult : Type 0
TestFailedIsLastResult = (past : Past) → test_failed start_state past ≡ last_failed (since_clear past)

-- pendingDTC says that a test failed since the last clear, and that no cycle with only passed tests ended since.
abbrev pub PendingIsUnrefutedFailure : Type 0
PendingIsUnrefutedFailure = (past : Past) →
    pending start_state past ≡ (has_failed (since_clear past) && not (passed_cycle_since_failure (since_clear past)))
