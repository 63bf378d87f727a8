-- The fault detection counter and the thresholds.
use Rattle.std.proofs.Common.{◌≡◌, ◌∙◌, ℕ, ◌*◌, ◌<◌, ◌≤◌, true, refl, sym, ap, subst, arith, ℤ, pos, negsuc, ◌≤ℤ◌, zero, suc, Option, inl, inr}
use Rattle.std.specs.Prelude.{neg_ℤ, int_lt, ◌⊎◌}
use Rattle.std.proofs.lemmas.Int.{ints}
use Rattle.std.proofs.Math.Nat.{div-lt_iff_lt-mul, mul-div_cancel_left, mul-lt-mul_of_pos_right, mul_comm}
use Rattle.flt_config.specs.declared.config.Debounce.TheVariants.{Counter, Time}
use Rattle.flt_model.specs.declared.call.DebState.TheVariants.{Count, Idle, Failing, Passing, AtFailed, AtPassed}
use Rattle.flt_model.specs.Debounce.{scaled, detection_counter}
use Rattle.flt_model.specs.DebounceLaws.{DetectionCounterTellsThresholds, TellsThresholds}

-- ---- a part of a whole on a scale

pub scaled-less : (scale part whole : ℕ) → 0 < scale → part < whole → scaled scale part whole < scale
scaled-less scale part whole above less =
    (div-lt_iff_lt-mul {k = whole} {x = part * scale} {y = scale} (omega (arith, less))).1
    (subst (λ n. part * scale < n) (mul_comm whole scale) (mul-lt-mul_of_pos_right {m = part} {n = whole} {k = scale} less above))

pub scaled-whole : (scale whole : ℕ) → 0 < whole → scaled scale whole whole ≡ scale
scaled-whole scale whole above = mul-div_cancel_left scale {n = whole} above

-- The part comes to the scale exactly where it is the whole.
record Scaled (scale part whole : ℕ) : Type 0 where
  pub least : scaled scale part whole ≤ scale
  pub whole_is : scaled scale part whole ≡ scale → part ≡ whole
  pub is_whole : part ≡ whole → scaled scale part whole ≡ scale

scaled_tells : (scale part whole : ℕ) → 0 < scale → 0 < whole → part ≤ whole → Scaled scale part whole
scaled_tells scale part whole above wide within =
    elim (cases_le part whole within) [
      | inl less ↦
          let below = scaled-less scale part whole above less in
          record { least = omega (arith, below); whole_is = λ e. absurd (omega (arith, below, e)); is_whole = λ e. absurd (omega (arith, less, e)) }
      | inr same ↦
          let at : scaled scale part whole ≡ scale = subst (λ w. scaled scale part w ≡ scale) same (scaled-whole scale part (omega (arith, wide, same))) in
          record { least = omega (arith, at); whole_is = λ e. same; is_whole = λ e. at }
    ]
  where
    cases_le : (a b : ℕ) → a ≤ b → (a < b) ⊎ (a ≡ b)
    cases_le zero zero h = inr refl
    cases_le zero (suc b) h = inl (omega arith)
    cases_le (suc a) zero h = absurd (omega (arith, h))
    cases_le (suc a) (suc b) h = elim (cases_le a b (omega (arith, h))) [ inl less ↦ inl (omega (arith, less)) | inr same ↦ inr (ap suc same) ]

-- ---- the number with its sign turned

record Turned (s : ℕ) : Type 0 where
  pub least : negsuc 127 ≤ℤ neg_ℤ (pos s)
  pub greatest : neg_ℤ (pos s) ≤ℤ pos 127
  pub end_is : neg_ℤ (pos s) ≡ negsuc 127 → s ≡ 128
  pub is_end : s ≡ 128 → neg_ℤ (pos s) ≡ negsuc 127
  pub never : neg_ℤ (pos s) ≡ pos 127 → ⊥

turned : (s : ℕ) → s ≤ 128 → Turned s
turned zero h = record { least = omega (arith, ints); greatest = omega (arith, ints); end_is = λ e. absurd (cc); is_end = λ e. absurd (cc); never = λ e. absurd (cc) }
turned (suc s) h = record {
  least = omega (arith, ints, h);
  greatest = omega (arith, ints);
  end_is = λ e. let same : s ≡ 127 = cc in ap suc same;
  is_end = λ e. let same : s ≡ 127 = omega (arith, e) in ap negsuc same;
  never = λ e. absurd (cc);
}

-- ---- by a counter

-- A value above 0 is scaled to the failed threshold.
risen : (w : ℕ) (pass_at up down : ℤ) (jump_up jump_down : Option ℤ) (n : ℕ) →
    detection_counter (Counter (pos w) pass_at up down jump_up jump_down) (Count (pos (suc n))) ≡ pos (scaled 127 (suc n) w)
risen w pass_at up down jump_up jump_down n =
    let above : int_lt (pos 0) (pos (suc n)) ≡ true = grind (arith, ints) in
    rw above refl

counter_tells : (fail_at pass_at up down : ℤ) (jump_up jump_down : Option ℤ) (value : ℤ) → pos 1 ≤ℤ fail_at → pass_at ≤ℤ negsuc 0 → pass_at ≤ℤ value → value ≤ℤ fail_at →
    TellsThresholds (Counter fail_at pass_at up down jump_up jump_down) (Count value)
counter_tells (negsuc w) pass_at up down jump_up jump_down value above below least greatest = absurd (omega (arith, ints, above))
counter_tells (pos w) (pos q) up down jump_up jump_down value above below least greatest = absurd (omega (arith, ints, below))
counter_tells (pos w) (negsuc q) up down jump_up jump_down (pos zero) above below least greatest =
    let wide : 0 < w = omega (arith, ints, above) in
    let tells = scaled_tells 128 0 (suc q) (omega arith) (omega arith) (omega arith) in
    let turns = turned (scaled 128 0 (suc q)) tells.least in
    record {
      least = turns.least;
      greatest = turns.greatest;
      failed = (λ e. absurd (turns.never e), λ e. let same : pos 0 ≡ pos w = cc in let is : 0 ≡ w = cc in absurd (omega (arith, wide, is)));
      passed = (λ e. let is = tells.whole_is (turns.end_is e) in absurd (omega (arith, is)), λ e. absurd (cc));
    }
counter_tells (pos w) (negsuc q) up down jump_up jump_down (pos (suc n)) above below least greatest =
    let wide : 0 < w = omega (arith, ints, above) in
    let within : suc n ≤ w = omega (arith, ints, greatest) in
    let tells = scaled_tells 127 (suc n) w (omega arith) wide within in
    let is = risen w (negsuc q) up down jump_up jump_down n in
    record {
      least = rw is (omega (arith, ints));
      greatest = rw is (omega (arith, ints, tells.least));
      failed = (
        λ e.
            let at : pos (scaled 127 (suc n) w) ≡ pos 127 = sym is ∙ e in
            let same : scaled 127 (suc n) w ≡ 127 = cc in
            ap (λ x. Count (pos x)) (tells.whole_is same),
        λ e. let same : suc n ≡ w = cc in is ∙ ap pos (tells.is_whole same),
      );
      passed = (λ e. let at : pos (scaled 127 (suc n) w) ≡ negsuc 127 = sym is ∙ e in absurd (cc), λ e. absurd (cc));
    }
counter_tells (pos w) (negsuc q) up down jump_up jump_down (negsuc n) above below least greatest =
    let within : suc n ≤ suc q = omega (arith, ints, least) in
    let tells = scaled_tells 128 (suc n) (suc q) (omega arith) (omega arith) within in
    let turns = turned (scaled 128 (suc n) (suc q)) tells.least in
    record {
      least = turns.least;
      greatest = turns.greatest;
      failed = (λ e. absurd (turns.never e), λ e. absurd (cc));
      passed = (λ e. let same : n ≡ q = omega (arith, tells.whole_is (turns.end_is e)) in ap (λ x. Count (negsuc x)) same, λ e. let same : n ≡ q = cc in turns.is_end (tells.is_whole (ap suc same)));
    }

-- ---- by time

failing_tells : (fail pass ticks : ℕ) → ticks < fail → TellsThresholds (Time fail pass) (Failing ticks)
failing_tells fail pass ticks less =
    let below = scaled-less 127 ticks fail (omega arith) less in
    record {
      least = omega (arith, ints);
      greatest = omega (arith, ints, below);
      failed = (λ e. let same : scaled 127 ticks fail ≡ 127 = cc in absurd (omega (arith, below, same)), λ e. absurd (cc));
      passed = (λ e. absurd (cc), λ e. absurd (cc));
    }

passing_tells : (fail pass ticks : ℕ) → ticks < pass → TellsThresholds (Time fail pass) (Passing ticks)
passing_tells fail pass ticks less =
    let below = scaled-less 128 ticks pass (omega arith) less in
    let turns = turned (scaled 128 ticks pass) (omega (arith, below)) in
    record {
      least = turns.least;
      greatest = turns.greatest;
      failed = (λ e. absurd (turns.never e), λ e. absurd (cc));
      passed = (λ e. absurd (omega (arith, below, turns.end_is e)), λ e. absurd (cc));
    }

pub detection_counter_tells_thresholds : DetectionCounterTellsThresholds
detection_counter_tells_thresholds (Counter fail_at pass_at up down jump_up jump_down) (Count value) r is =
    counter_tells fail_at pass_at up down jump_up jump_down value r.fail_at_above.0 r.pass_at_below.1 is.0 is.1
detection_counter_tells_thresholds (Counter fail_at pass_at up down jump_up jump_down) Idle r is = absurd is
detection_counter_tells_thresholds (Counter fail_at pass_at up down jump_up jump_down) (Failing ticks) r is = absurd is
detection_counter_tells_thresholds (Counter fail_at pass_at up down jump_up jump_down) (Passing ticks) r is = absurd is
detection_counter_tells_thresholds (Counter fail_at pass_at up down jump_up jump_down) AtFailed r is = absurd is
detection_counter_tells_thresholds (Counter fail_at pass_at up down jump_up jump_down) AtPassed r is = absurd is
detection_counter_tells_thresholds (Time fail pass) (Count value) r is = absurd is
detection_counter_tells_thresholds (Time fail pass) Idle r is = record {
  least = omega (arith, ints);
  greatest = omega (arith, ints);
  failed = (λ e. absurd (cc), λ e. absurd (cc));
  passed = (λ e. absurd (cc), λ e. absurd (cc));
}
detection_counter_tells_thresholds (Time fail pass) (Failing ticks) r is = failing_tells fail pass ticks is
detection_counter_tells_thresholds (Time fail pass) (Passing ticks) r is = passing_tells fail pass ticks is
detection_counter_tells_thresholds (Time fail pass) AtFailed r is = record {
  least = omega (arith, ints);
  greatest = omega (arith, ints);
  failed = (λ e. refl, λ e. refl);
  passed = (λ e. absurd (cc), λ e. absurd (cc));
}
detection_counter_tells_thresholds (Time fail pass) AtPassed r is = record {
  least = omega (arith, ints);
  greatest = omega (arith, ints);
  failed = (λ e. absurd (cc), λ e. absurd (cc));
  passed = (λ e. refl, λ e. refl);
}
