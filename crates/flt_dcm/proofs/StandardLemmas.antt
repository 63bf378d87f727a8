-- Six status bits say what the standard says of the marks since the last clear.
use Rattle.std.proofs.Common.{◌≡◌, ◌∙◌, Bool, true, false, not, ◌&&◌, [], ◌∷◌, Some, None, cond, refl, sym, ap, subst}
use Rattle.std.specs.Prelude.{unwrap_or}
use Rattle.flt_config.specs.declared.config.EventCfg.{EventCfg}
use Rattle.flt_config.specs.declared.persist.EventState.{EventState}
use Rattle.flt_config.specs.Durable.{start_state}
use Rattle.flt_model.specs.declared.status.Status.{Status}
use Rattle.flt_model.specs.Byte.{is_bit_set}
use Rattle.flt_model.specs.Mark.{Past, Row, decided}
use Rattle.flt_model.specs.Mark.Mark.{Failed, Passed, Cycle, Clear, Aged, Displaced, Added, Refused}
use Rattle.flt_model.specs.Status.{status, durable, test_failed, failed_this_cycle, pending, not_completed_since_clear, failed_since_clear, not_completed_this_cycle, ends_clean, test_failed_row, failed_this_cycle_row, not_completed_since_clear_row, failed_since_clear_row, not_completed_this_cycle_row}
use Rattle.flt_model.specs.StatusLaws.{since_clear, has_failed}
use Rattle.flt_model.proofs.StatusLaws.{byte_tells_bits, tested, failed_now, untested_now, test_failed_is_last_result, pending_is_unrefuted_failure}
use Rattle.flt_dcm.specs.Standard.{StandardBits, has_test, has_cleared}

-- ---- what does not depend on a base, after a clear

-- A row that a clear decides.
decided_alike : (row : Row) (value base other : Bool) → ((past : Past) → row past Clear ≡ Some value) → (past : Past) → has_cleared past ≡ true →
    decided row base past ≡ decided row other past
decided_alike row value base other clears [] cleared = absurd cc
decided_alike row value base other clears (Clear ∷ past) cleared = ap (λ o. unwrap_or o (decided row base past)) (clears past) ∙ sym (ap (λ o. unwrap_or o (decided row other past)) (clears past))
decided_alike row value base other clears (Failed ∷ past) cleared = ap (λ b. unwrap_or (row past Failed) b) (decided_alike row value base other clears past cleared)
decided_alike row value base other clears (Passed ∷ past) cleared = ap (λ b. unwrap_or (row past Passed) b) (decided_alike row value base other clears past cleared)
decided_alike row value base other clears (Cycle ∷ past) cleared = ap (λ b. unwrap_or (row past Cycle) b) (decided_alike row value base other clears past cleared)
decided_alike row value base other clears (Aged ∷ past) cleared = ap (λ b. unwrap_or (row past Aged) b) (decided_alike row value base other clears past cleared)
decided_alike row value base other clears (Displaced ∷ past) cleared = ap (λ b. unwrap_or (row past Displaced) b) (decided_alike row value base other clears past cleared)
decided_alike row value base other clears (Added ∷ past) cleared = ap (λ b. unwrap_or (row past Added) b) (decided_alike row value base other clears past cleared)
decided_alike row value base other clears (Refused ∷ past) cleared = ap (λ b. unwrap_or (row past Refused) b) (decided_alike row value base other clears past cleared)

module _ (base : EventState) where
  clean_alike : (past : Past) → has_cleared past ≡ true → ends_clean base past ≡ ends_clean start_state past
  clean_alike past cleared = λ i.
      not (decided_alike failed_this_cycle_row false (is_bit_set base.status 1) (is_bit_set start_state.status 1) (λ _. refl) past cleared i)
      && not (decided_alike not_completed_this_cycle_row true (is_bit_set base.status 6) (is_bit_set start_state.status 6) (λ _. refl) past cleared i)

  pending_alike : (past : Past) → has_cleared past ≡ true → pending base past ≡ pending start_state past
  pending_alike [] cleared = absurd cc
  pending_alike (Clear ∷ past) cleared = refl
  pending_alike (Failed ∷ past) cleared = refl
  pending_alike (Passed ∷ past) cleared = pending_alike past cleared
  pending_alike (Cycle ∷ past) cleared = λ i. unwrap_or (cond (clean_alike past cleared i) (Some false) None) (pending_alike past cleared i)
  pending_alike (Aged ∷ past) cleared = pending_alike past cleared
  pending_alike (Displaced ∷ past) cleared = pending_alike past cleared
  pending_alike (Added ∷ past) cleared = pending_alike past cleared
  pending_alike (Refused ∷ past) cleared = pending_alike past cleared

-- ---- the bits from the start state

untested_since_clear : (past : Past) → not_completed_since_clear start_state past ≡ not (has_test (since_clear past))
untested_since_clear [] = refl
untested_since_clear (Failed ∷ past) = refl
untested_since_clear (Passed ∷ past) = tested (has_failed (since_clear past))
untested_since_clear (Clear ∷ past) = refl
untested_since_clear (Cycle ∷ past) = untested_since_clear past
untested_since_clear (Aged ∷ past) = untested_since_clear past
untested_since_clear (Displaced ∷ past) = untested_since_clear past
untested_since_clear (Added ∷ past) = untested_since_clear past
untested_since_clear (Refused ∷ past) = untested_since_clear past

failed_since : (past : Past) → failed_since_clear start_state past ≡ has_failed (since_clear past)
failed_since [] = refl
failed_since (Failed ∷ past) = refl
failed_since (Passed ∷ past) = failed_since past
failed_since (Clear ∷ past) = refl
failed_since (Cycle ∷ past) = failed_since past
failed_since (Aged ∷ past) = failed_since past
failed_since (Displaced ∷ past) = failed_since past
failed_since (Added ∷ past) = failed_since past
failed_since (Refused ∷ past) = failed_since past

-- ---- the six together

-- The bits of a byte whose state is as that of an event never tested.
alike_bits : (base : EventState) (event : EventCfg) (past : Past) →
    test_failed base past ≡ test_failed start_state past → failed_this_cycle base past ≡ failed_this_cycle start_state past →
    pending base past ≡ pending start_state past → not_completed_since_clear base past ≡ not_completed_since_clear start_state past →
    failed_since_clear base past ≡ failed_since_clear start_state past → not_completed_this_cycle base past ≡ not_completed_this_cycle start_state past →
    StandardBits (durable base event past).status (since_clear past)
alike_bits base event past t0 t1 t2 t4 t5 t6 =
    let told = byte_tells_bits (status base event past) in
    record {
      test_failed = ap (λ (s : Status). s.test_failed) told ∙ t0 ∙ test_failed_is_last_result past;
      failed_this_cycle = ap (λ (s : Status). s.failed_this_cycle) told ∙ t1 ∙ failed_now past;
      pending = ap (λ (s : Status). s.pending) told ∙ t2 ∙ pending_is_unrefuted_failure past;
      not_completed_since_clear = ap (λ (s : Status). s.not_completed_since_clear) told ∙ t4 ∙ untested_since_clear past;
      failed_since_clear = ap (λ (s : Status). s.failed_since_clear) told ∙ t5 ∙ failed_since past;
      not_completed_this_cycle = ap (λ (s : Status). s.not_completed_this_cycle) told ∙ t6 ∙ untested_now past;
    }

pub bits_behind_a_clear : (base : EventState) (event : EventCfg) (past : Past) → has_cleared past ≡ true →
    StandardBits (durable base event past).status (since_clear past)
bits_behind_a_clear base event past cleared =
    alike_bits base event past
    (decided_alike test_failed_row false (is_bit_set base.status 0) (is_bit_set start_state.status 0) (λ _. refl) past cleared)
    (decided_alike failed_this_cycle_row false (is_bit_set base.status 1) (is_bit_set start_state.status 1) (λ _. refl) past cleared)
    (pending_alike base past cleared)
    (decided_alike not_completed_since_clear_row true (is_bit_set base.status 4) (is_bit_set start_state.status 4) (λ _. refl) past cleared)
    (decided_alike failed_since_clear_row false (is_bit_set base.status 5) (is_bit_set start_state.status 5) (λ _. refl) past cleared)
    (decided_alike not_completed_this_cycle_row true (is_bit_set base.status 6) (is_bit_set start_state.status 6) (λ _. refl) past cleared)

pub bits_from_the_start : (base : EventState) (event : EventCfg) (past : Past) → base ≡ start_state →
    StandardBits (durable base event past).status (since_clear past)
bits_from_the_start base event past start =
    subst (λ state. StandardBits (durable state event past).status (since_clear past)) (sym start)
    (alike_bits start_state event past refl refl refl refl refl refl)
