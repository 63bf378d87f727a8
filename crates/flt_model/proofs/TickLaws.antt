-- A timer's ticks qualify once in a run.
use Rattle.std.proofs.Common.{◌≡◌, ◌∙◌, ℕ, ◌+◌, ◌≤◌, nat_le, Bool, true, false, not, ◌&&◌, ◌||◌, cond, [], ◌∷◌, ◌++◌, Option, Some, None, refl, ap, subst, arith, inl, inr}
use Rattle.std.proofs.lemmas.Bool.{not-false, cases_Bool, and_parts, or_parts, le-leb, leb-true}
use Rattle.flt_config.specs.declared.config.Debounce.TheVariants.{Counter, Time}
use Rattle.flt_model.specs.declared.call.Report.TheVariants as reports
use Rattle.flt_model.specs.declared.call.Qualified.{Qualified}
use Rattle.flt_model.specs.declared.call.Qualified.TheVariants.{Passed, Failed}
use Rattle.flt_model.specs.Debounce.{Happening, Happenings, Reported, Ticked, Ended, Cleared, is_of, is_same, direction, joined, run, has_report, has_definite, elapsed, is_at_threshold, is_reached, threshold, last_direction, qualified_by_tick}
use Rattle.flt_model.specs.DebounceLaws.{is_broken_off, TicksQualifyOnce}

-- ---- a run that goes on

-- Without a report no time is counted.
none_elapsed : (past : Happenings) → has_report past ≡ false → elapsed past ≡ 0
none_elapsed [] none = refl
none_elapsed (Reported report ∷ past) none = absurd (cc)
none_elapsed (Ticked ticks ∷ past) none = rw none refl
none_elapsed (Ended ∷ past) none = none_elapsed past none
none_elapsed (Cleared ∷ past) none = none_elapsed past none

later_elapsed : (limit ticks : ℕ) (past : Happenings) (reports : Bool) → has_report past ≡ reports → limit ≤ elapsed past → limit ≤ cond reports (elapsed past + ticks) 0
later_elapsed limit ticks past true is reached = omega (arith, reached)
later_elapsed limit ticks past false is reached = let none = none_elapsed past is in omega (arith, reached, none)

ticked_stays : (limit ticks : ℕ) (past : Happenings) (definite : Bool) → (definite || nat_le limit (elapsed past)) ≡ true →
    (definite || nat_le limit (elapsed (Ticked ticks ∷ past))) ≡ true
ticked_stays limit ticks past true at = refl
ticked_stays limit ticks past false at =
    le-leb limit (elapsed (Ticked ticks ∷ past)) (later_elapsed limit ticks past (has_report past) refl (leb-true limit (elapsed past) at))

-- What came to a threshold stays there.
at_stays : (limit : ℕ) (happening : Happening) (past : Happenings) → is_at_threshold limit past ≡ true → is_at_threshold limit (happening ∷ past) ≡ true
at_stays limit (Reported reports.Failed) past at = refl
at_stays limit (Reported reports.Passed) past at = refl
at_stays limit (Reported reports.PreFailed) past at = at
at_stays limit (Reported reports.PrePassed) past at = at
at_stays limit (Ticked ticks) past at = ticked_stays limit ticks past (has_definite past) at
at_stays limit Ended past at = at
at_stays limit Cleared past at = at

same_is : (way other : Qualified) → is_same way other ≡ true → Some other ≡ Some way
same_is Passed Passed same = refl
same_is Failed Failed same = refl
same_is Passed Failed same = absurd (cc)
same_is Failed Passed same = absurd (cc)

goes_on : (way : Qualified) (happening : Happening) (past : Happenings) → is_of way happening ≡ true → last_direction past ≡ Some way → last_direction (happening ∷ past) ≡ Some way
goes_on way (Reported report) past of last = same_is way (direction report) of
goes_on way (Ticked ticks) past of last = last
goes_on way Ended past of last = absurd (cc)
goes_on way Cleared past of last = absurd (cc)

module _ (fail pass : ℕ) (way : Qualified) where
  -- A timer at the threshold of its direction.
  abbrev IsThere : Happenings → Type 0
  IsThere past = (last_direction past ≡ Some way) × (is_reached fail pass way past ≡ true)

  stays_there : (happening : Happening) (past : Happenings) → is_of way happening ≡ true → IsThere past → IsThere (happening ∷ past)
  stays_there happening past of there = (
    goes_on way happening past of there.0,
    ap (λ b. is_at_threshold (threshold fail pass way) (joined b happening (run way past))) of ∙ at_stays (threshold fail pass way) happening (run way past) there.1,
  )

  there_since : (between past : Happenings) → is_broken_off way between ≡ false → IsThere past → IsThere (between ++ past)
  there_since [] past whole there = there
  there_since (happening ∷ between) past whole there =
      let parts = or_parts (not (is_of way happening)) (is_broken_off way between) whole in
      stays_there happening (between ++ past) (not-false (is_of way happening) parts.0) (there_since between past parts.1 there)

  -- It qualifies nothing.
  nothing_more : (ticks : ℕ) (past : Happenings) → IsThere past → qualified_by_tick fail pass ticks past (last_direction past) ≡ None
  nothing_more ticks past there =
      ap (qualified_by_tick fail pass ticks past) there.0 ∙ ap (λ b. cond (not b && is_reached fail pass way (Ticked ticks ∷ past)) (Some way) None) there.1

-- Ticks that qualify bring a timer there.
brought : (fail pass ticks : ℕ) (past : Happenings) (first : Qualified) (last : Option Qualified) → last_direction past ≡ last → qualified_by_tick fail pass ticks past last ≡ Some first
    → IsThere fail pass first (Ticked ticks ∷ past)
brought fail pass ticks past first None is e = absurd (cc)
brought fail pass ticks past first (Some way) is e = by_test (not (is_reached fail pass way past) && is_reached fail pass way (Ticked ticks ∷ past)) refl e
  where
    by_test : (test : Bool) → (not (is_reached fail pass way past) && is_reached fail pass way (Ticked ticks ∷ past)) ≡ test → cond test (Some way) None ≡ Some first
        → IsThere fail pass first (Ticked ticks ∷ past)
    by_test false at e = absurd (cc)
    by_test true at e =
        let same : way ≡ first = cc in
        subst (λ w. IsThere fail pass w (Ticked ticks ∷ past)) same
        (is, (and_parts (not (is_reached fail pass way past)) (is_reached fail pass way (Ticked ticks ∷ past)) at).1)

pub ticks_qualify_once : TicksQualifyOnce
ticks_qualify_once (Counter fail_at pass_at up down jump_up jump_down) before between ticks later first second e f = absurd (cc)
ticks_qualify_once (Time fail pass) before between ticks later first second e f =
    let there = brought fail pass ticks before first (last_direction before) refl e in
    elim (cases_Bool (is_broken_off first between)) [
      | inl broken ↦ broken
      | inr whole ↦
          let none = nothing_more fail pass first later (between ++ Ticked ticks ∷ before) (there_since fail pass first between (Ticked ticks ∷ before) whole there) in
          absurd (cc (none, f))
    ]
