-- The laws on status bits, by induction on the marks.
use Rattle.std.proofs.Common.{◌≡◌, ◌∙◌, ℕ, Bool, true, false, not, ◌&&◌, ◌||◌, [], ◌∷◌, Some, None, cond, refl, ap, arith}
use Rattle.std.specs.Prelude.{unwrap_or}
use Rattle.std.specs.Int.{bit_at}
use Rattle.std.proofs.lemmas.Bool.{and_parts}
use Rattle.flt_config.specs.declared.config.EventCfg.{EventCfg}
use Rattle.flt_config.specs.declared.persist.EventState.{EventState}
use Rattle.flt_config.specs.Durable.{start_state}
use Rattle.flt_model.specs.declared.status.Status.{Status}
use Rattle.flt_model.specs.Byte.{value_of, byte_of, is_bit_set}
use Rattle.flt_model.specs.Mark.{Past}
use Rattle.flt_model.specs.Mark.Mark.{Failed, Passed, Cycle, Clear, Aged, Displaced, Added, Refused}
use Rattle.flt_model.specs.Status.{confirmed, lit, status, pending, failed_this_cycle, not_completed_this_cycle, ends_clean}
use Rattle.flt_model.specs.StatusLaws.{ByteTellsBits, LitIsConfirmed, IndicatorIsLit, TestFailedIsLastResult, PendingIsUnrefutedFailure, since_clear, this_cycle, has_failed, has_passed, passed_cycle_since_failure}
use Rattle.flt_model.proofs.Common.{value_of-le}

-- ---- the byte

-- The test of one bit, by its value.
bit_tells : (byte k : ℕ) (bit : Bool) → bit_at byte k ≡ value_of bit → is_bit_set byte k ≡ bit
bit_tells byte k true e = rw e refl
bit_tells byte k false e = rw e refl

pub byte_tells_bits : ByteTellsBits
byte_tells_bits s =
    let b0 = value_of-le s.test_failed in
    let b1 = value_of-le s.failed_this_cycle in
    let b2 = value_of-le s.pending in
    let b3 = value_of-le s.confirmed in
    let b4 = value_of-le s.not_completed_since_clear in
    let b5 = value_of-le s.failed_since_clear in
    let b6 = value_of-le s.not_completed_this_cycle in
    let b7 = value_of-le s.indicator_requested in
    let t0 = bit_tells (byte_of s) 0 s.test_failed (omega arith) in
    let t1 = bit_tells (byte_of s) 1 s.failed_this_cycle (omega arith) in
    let t2 = bit_tells (byte_of s) 2 s.pending (omega arith) in
    let t3 = bit_tells (byte_of s) 3 s.confirmed (omega arith) in
    let t4 = bit_tells (byte_of s) 4 s.not_completed_since_clear (omega arith) in
    let t5 = bit_tells (byte_of s) 5 s.failed_since_clear (omega arith) in
    let t6 = bit_tells (byte_of s) 6 s.not_completed_this_cycle (omega arith) in
    let t7 = bit_tells (byte_of s) 7 s.indicator_requested (omega arith) in
    rw (t0, t1, t2, t3, t4, t5, t6, t7) refl

pub indicator_is_lit : IndicatorIsLit
indicator_is_lit base event past = ap (λ (s : Status). s.indicator_requested) (byte_tells_bits (status base event past))

-- ---- lit and confirmed

lit_confirmed : (base : EventState) (event : EventCfg) (past : Past) → (base.lit ≡ true → is_bit_set base.status 3 ≡ true) →
    lit base event past ≡ true → confirmed base event past ≡ true
lit_confirmed base event [] agrees on = agrees on
lit_confirmed base event (Failed ∷ past) agrees on = (and_parts event.indicator (confirmed base event (Failed ∷ past)) on).1
lit_confirmed base event (Passed ∷ past) agrees on = lit_confirmed base event past agrees on
lit_confirmed base event (Cycle ∷ past) agrees on = lit_confirmed base event past agrees on
lit_confirmed base event (Clear ∷ past) agrees on = cc
lit_confirmed base event (Aged ∷ past) agrees on = cc
lit_confirmed base event (Displaced ∷ past) agrees on = cc
lit_confirmed base event (Added ∷ past) agrees on = lit_confirmed base event past agrees on
lit_confirmed base event (Refused ∷ past) agrees on = lit_confirmed base event past agrees on

pub lit_is_confirmed : LitIsConfirmed
lit_is_confirmed base event past agrees on =
    ap (λ (s : Status). s.confirmed) (byte_tells_bits (status base event past)) ∙ lit_confirmed base event past agrees on

-- ---- testFailed

pub test_failed_is_last_result : TestFailedIsLastResult
test_failed_is_last_result [] = refl
test_failed_is_last_result (Failed ∷ past) = refl
test_failed_is_last_result (Passed ∷ past) = refl
test_failed_is_last_result (Clear ∷ past) = refl
test_failed_is_last_result (Cycle ∷ past) = test_failed_is_last_result past
test_failed_is_last_result (Aged ∷ past) = test_failed_is_last_result past
test_failed_is_last_result (Displaced ∷ past) = test_failed_is_last_result past
test_failed_is_last_result (Added ∷ past) = test_failed_is_last_result past
test_failed_is_last_result (Refused ∷ past) = test_failed_is_last_result past

-- ---- pendingDTC

-- A test failed in this cycle.
pub failed_now : (past : Past) → failed_this_cycle start_state past ≡ has_failed (this_cycle (since_clear past))
failed_now [] = refl
failed_now (Failed ∷ past) = refl
failed_now (Passed ∷ past) = failed_now past
failed_now (Clear ∷ past) = refl
failed_now (Cycle ∷ past) = refl
failed_now (Aged ∷ past) = failed_now past
failed_now (Displaced ∷ past) = failed_now past
failed_now (Added ∷ past) = failed_now past
failed_now (Refused ∷ past) = failed_now past

pub tested : (failed : Bool) → false ≡ not (failed || true)
tested true = refl
tested false = refl

-- A test was completed in this cycle, or none was.
pub untested_now : (past : Past) → not_completed_this_cycle start_state past ≡ not (has_failed (this_cycle (since_clear past)) || has_passed (this_cycle (since_clear past)))
untested_now [] = refl
untested_now (Failed ∷ past) = refl
untested_now (Passed ∷ past) = tested (has_failed (this_cycle (since_clear past)))
untested_now (Clear ∷ past) = refl
untested_now (Cycle ∷ past) = refl
untested_now (Aged ∷ past) = untested_now past
untested_now (Displaced ∷ past) = untested_now past
untested_now (Added ∷ past) = untested_now past
untested_now (Refused ∷ past) = untested_now past

clean_test : (failed passed : Bool) → (not failed && not (not (failed || passed))) ≡ (passed && not failed)
clean_test true true = refl
clean_test true false = refl
clean_test false true = refl
clean_test false false = refl

-- A cycle that ends here had passed tests alone.
clean_now : (past : Past) → ends_clean start_state past ≡ (has_passed (this_cycle (since_clear past)) && not (has_failed (this_cycle (since_clear past))))
clean_now past =
    (λ i. not (failed_now past i) && not (untested_now past i))
    ∙ clean_test (has_failed (this_cycle (since_clear past))) (has_passed (this_cycle (since_clear past)))

pub cleared_where : (test before : Bool) → unwrap_or (cond test (Some false) None) before ≡ (before && not test)
cleared_where true true = refl
cleared_where true false = refl
cleared_where false true = refl
cleared_where false false = refl

refuted : (failure before now : Bool) → ((failure && not before) && not now) ≡ (failure && not (now || before))
refuted true true true = refl
refuted true true false = refl
refuted true false true = refl
refuted true false false = refl
refuted false before now = refl

pub pending_is_unrefuted_failure : PendingIsUnrefutedFailure
pending_is_unrefuted_failure [] = refl
pending_is_unrefuted_failure (Failed ∷ past) = refl
pending_is_unrefuted_failure (Passed ∷ past) = pending_is_unrefuted_failure past
pending_is_unrefuted_failure (Clear ∷ past) = refl
pending_is_unrefuted_failure (Cycle ∷ past) =
    let marks = since_clear past in
    cleared_where (ends_clean start_state past) (pending start_state past)
    ∙ ap (λ b. b && not (ends_clean start_state past)) (pending_is_unrefuted_failure past)
    ∙ ap (λ b. (has_failed marks && not (passed_cycle_since_failure marks)) && not b) (clean_now past)
    ∙ refuted (has_failed marks) (passed_cycle_since_failure marks) (has_passed (this_cycle marks) && not (has_failed (this_cycle marks)))
pending_is_unrefuted_failure (Aged ∷ past) = pending_is_unrefuted_failure past
pending_is_unrefuted_failure (Displaced ∷ past) = pending_is_unrefuted_failure past
pending_is_unrefuted_failure (Added ∷ past) = pending_is_unrefuted_failure past
pending_is_unrefuted_failure (Refused ∷ past) = pending_is_unrefuted_failure past
