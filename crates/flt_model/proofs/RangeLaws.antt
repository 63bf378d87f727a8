-- Laws on the ranges of debouncing.
use Rattle.std.proofs.Common.{ℕ, ◌<◌, [], ◌∷◌, Option, Some, None, arith, inl, inr, nat_le, ℤ, ◌+ℤ◌, ◌-ℤ◌, pos, ◌≤ℤ◌, ◌<ℤ◌}
use Rattle.std.proofs.lemmas.Bool.{or_parts, leb-false, cases_Bool}
use Rattle.std.specs.Int.{int_min, int_max}
use Rattle.std.proofs.lemmas.Int.{ints, int_min_is, int_max_is}
use Rattle.flt_config.specs.declared.config.Debounce.TheVariants.{Counter, Time}
use Rattle.flt_config.specs.Validity.{IsCounterInRange}
use Rattle.flt_model.specs.declared.call.Report.TheVariants as reports
use Rattle.flt_model.specs.declared.call.Qualified.{Qualified}
use Rattle.flt_model.specs.declared.call.Qualified.TheVariants.{Passed, Failed}
use Rattle.flt_model.specs.Debounce.{Happenings, Reported, Ticked, Ended, Cleared, IsOfKind, counter, lifted, lowered, timed, last_direction, is_reached, reached, running, threshold, run, elapsed, has_definite}
use Rattle.flt_model.specs.DebounceLaws.{DebouncingStaysInRange}

least_in_range : (limit low value : ℤ) → low ≤ℤ value → low ≤ℤ limit → (low ≤ℤ int_min value limit) × (int_min value limit ≤ℤ limit)
least_in_range limit low value a b = (omega (arith, ints, int_min_is value limit), omega (arith, ints, int_min_is value limit))

greatest_in_range : (high limit value : ℤ) → value ≤ℤ high → limit ≤ℤ high → (limit ≤ℤ int_max value limit) × (int_max value limit ≤ℤ high)
greatest_in_range high limit value a b = (omega (arith, ints, int_max_is value limit), omega (arith, ints, int_max_is value limit))

raised_in_range : (fail_at pass_at up : ℤ) (jump : Option ℤ) (value : ℤ) → pos 0 <ℤ fail_at → pass_at <ℤ pos 0 → pos 0 <ℤ up → (pass_at ≤ℤ value) × (value ≤ℤ fail_at) →
    (pass_at ≤ℤ int_min (lifted jump value +ℤ up) fail_at) × (int_min (lifted jump value +ℤ up) fail_at ≤ℤ fail_at)
raised_in_range f p u None value a b c i = least_in_range f p (value +ℤ u) (omega (arith, ints)) (omega (arith, ints))
raised_in_range f p u (Some jump) value a b c i = least_in_range f p (int_max value jump +ℤ u) (omega (arith, ints, int_max_is value jump)) (omega (arith, ints))

sunk_in_range : (fail_at pass_at down : ℤ) (jump : Option ℤ) (value : ℤ) → pos 0 <ℤ fail_at → pass_at <ℤ pos 0 → pos 0 <ℤ down → (pass_at ≤ℤ value) × (value ≤ℤ fail_at) →
    (pass_at ≤ℤ int_max (lowered jump value -ℤ down) pass_at) × (int_max (lowered jump value -ℤ down) pass_at ≤ℤ fail_at)
sunk_in_range f p d None value a b c i = greatest_in_range f p (value -ℤ d) (omega (arith, ints)) (omega (arith, ints))
sunk_in_range f p d (Some jump) value a b c i = greatest_in_range f p (int_min value jump -ℤ d) (omega (arith, ints, int_min_is value jump)) (omega (arith, ints))

-- The signs of a counter's numbers.
record Signs (fail_at pass_at up down : ℤ) : Type 0 where
  pub above : pos 0 <ℤ fail_at
  pub below : pass_at <ℤ pos 0
  pub rises : pos 0 <ℤ up
  pub falls : pos 0 <ℤ down

signs : (fail_at pass_at up down : ℤ) (jump_up jump_down : Option ℤ) → IsCounterInRange fail_at pass_at up down jump_up jump_down → Signs fail_at pass_at up down
signs fail_at pass_at up down jump_up jump_down r = record {
  above = omega (arith, ints, r.fail_at_above.0);
  below = omega (arith, ints, r.pass_at_below.1);
  rises = omega (arith, ints, r.up_above.0);
  falls = omega (arith, ints, r.down_above.0);
}

module _ (fail_at pass_at up down : ℤ) (jump_up jump_down : Option ℤ) (s : Signs fail_at pass_at up down) where
  counter_in_range : (past : Happenings) → (pass_at ≤ℤ counter (Counter fail_at pass_at up down jump_up jump_down) past) × (counter (Counter fail_at pass_at up down jump_up jump_down) past ≤ℤ fail_at)
  counter_in_range [] = (omega (arith, ints, s.below), omega (arith, ints, s.above))
  counter_in_range (Ended ∷ past) = (omega (arith, ints, s.below), omega (arith, ints, s.above))
  counter_in_range (Cleared ∷ past) = (omega (arith, ints, s.below), omega (arith, ints, s.above))
  counter_in_range (Ticked ticks ∷ past) = counter_in_range past
  counter_in_range (Reported reports.Failed ∷ past) = (omega (arith, ints, s.below, s.above), omega (arith, ints))
  counter_in_range (Reported reports.Passed ∷ past) = (omega (arith, ints), omega (arith, ints, s.below, s.above))
  counter_in_range (Reported reports.PreFailed ∷ past) =
      raised_in_range fail_at pass_at up jump_up (counter (Counter fail_at pass_at up down jump_up jump_down) past) s.above s.below s.rises (counter_in_range past)
  counter_in_range (Reported reports.PrePassed ∷ past) =
      sunk_in_range fail_at pass_at down jump_down (counter (Counter fail_at pass_at up down jump_up jump_down) past) s.above s.below s.falls (counter_in_range past)

reached_in_range : (fail pass : ℕ) (way : Qualified) → IsOfKind (Time fail pass) (reached way)
reached_in_range fail pass Failed = tt
reached_in_range fail pass Passed = tt

running_in_range : (fail pass : ℕ) (way : Qualified) (ticks : ℕ) → ticks < threshold fail pass way → IsOfKind (Time fail pass) (running way ticks)
running_in_range fail pass Failed ticks h = h
running_in_range fail pass Passed ticks h = h

timed_in_range : (fail pass : ℕ) (past : Happenings) (way : Option Qualified) → IsOfKind (Time fail pass) (timed fail pass past way)
timed_in_range fail pass past None = tt
timed_in_range fail pass past (Some way) =
    elim (cases_Bool (is_reached fail pass way past)) [
      | inl at ↦ rw at (reached_in_range fail pass way)
      | inr below ↦ rw below (running_in_range fail pass way (elapsed (run way past))
          (leb-false _ _ (or_parts (has_definite (run way past)) (nat_le (threshold fail pass way) (elapsed (run way past))) below).1))
    ]

pub debouncing_stays_in_range : DebouncingStaysInRange
debouncing_stays_in_range (Counter fail_at pass_at up down jump_up jump_down) past r =
    counter_in_range fail_at pass_at up down jump_up jump_down (signs fail_at pass_at up down jump_up jump_down r) past
debouncing_stays_in_range (Time fail pass) past r = timed_in_range fail pass past (last_direction past)
