-- A disabled event is frozen, and an event that needs nothing is enabled.
use Rattle.std.proofs.Common.{◌≡◌, ◌∙◌, ℕ, Bool, true, false, not, ◌||◌, ◌&&◌, ◌==◌, cond, [], ◌∷◌, ◌++◌, Some, None, refl, ap}
use Rattle.std.specs.Prelude.{is_none}
use Rattle.std.proofs.lemmas.Bool.{and_from, and_right, or_right}
use Rattle.flt_model.specs.declared.call.Op.TheVariants as ops
use Rattle.flt_model.specs.declared.call.Report.{Report}
use Rattle.flt_model.specs.Start.{Start, History, event_of}
use Rattle.flt_model.specs.Debounce.{Reported, Ticked}
use Rattle.flt_model.specs.Session.{is_setting_off}
use Rattle.flt_model.specs.Happening.{happenings, with_happening, own_report, reported_where, Readiness, cause_of, is_started, is_fulfilled, conditions, are_met, is_enabled}
use Rattle.flt_model.specs.Answer.{answer_report}
use Rattle.flt_model.specs.EnableLaws.{NamesFirstCause, CausesComeInOrder, DisabledEventsAreLeft, DisabledEventsGoOnWhereTheyStood, DisabledEventsAreEndedAndCleared, EventsWithoutNeedsAreEnabled, HasNoEnable, EventsAreEnabledAtFirst}

-- What is seen of an event.
abbrev pub seen : Bool → Bool → Bool → Readiness
seen setting started enabled = record { setting = setting; started = started; enabled = enabled }

-- ---- the answer to a report

in_order : (off started enabled : Bool) → NamesFirstCause off started enabled (answer_report (seen (not off) started enabled))
in_order true started enabled = record {
  setting = (λ e. refl, λ e. refl);
  cycle = (λ e. absurd (cc), λ e. absurd (cc));
  condition = (λ e. absurd (cc), λ e. absurd (cc));
  taken = (λ e. absurd (cc), λ e. absurd (cc));
}
in_order false false enabled = record {
  setting = (λ e. absurd (cc), λ e. absurd (cc));
  cycle = (λ e. (refl, refl), λ e. refl);
  condition = (λ e. absurd (cc), λ e. absurd (cc));
  taken = (λ e. absurd (cc), λ e. absurd (cc));
}
in_order false true false = record {
  setting = (λ e. absurd (cc), λ e. absurd (cc));
  cycle = (λ e. absurd (cc), λ e. absurd (cc));
  condition = (λ e. (refl, refl, refl), λ e. refl);
  taken = (λ e. absurd (cc), λ e. absurd (cc));
}
in_order false true true = record {
  setting = (λ e. absurd (cc), λ e. absurd (cc));
  cycle = (λ e. absurd (cc), λ e. absurd (cc));
  condition = (λ e. absurd (cc), λ e. absurd (cc));
  taken = (λ e. (refl, refl, refl), λ e. refl);
}

pub causes_come_in_order : CausesComeInOrder
causes_come_in_order life event past report = in_order (is_setting_off past) (is_started (event_of life event).cycle past) (is_enabled life event past)

-- ---- a disabled event

disabled_counts_not : (setting started enabled : Bool) → enabled ≡ false → is_none (cause_of (seen setting started enabled)) ≡ false
disabled_counts_not false started enabled off = refl
disabled_counts_not true false enabled off = refl
disabled_counts_not true true enabled off = rw off refl

none_reported : (life : Start) (event : ℕ) (past : History) (own : Bool) (report : Report) → is_enabled life event past ≡ false →
    reported_where (own_report life event past own) (Reported report) ≡ None
none_reported life event past true report off =
    ap (λ b. reported_where (Some b) (Reported report)) (disabled_counts_not (not (is_setting_off past)) (is_started (event_of life event).cycle past) (is_enabled life event past) off)
none_reported life event past false report off = refl

pub disabled_events_are_left : DisabledEventsAreLeft
disabled_events_are_left life event past off = record {
  reports = λ other report. none_reported life event past (other == event) report off;
  ticks = λ ticks. ap (λ b. cond b (Some (Ticked ticks)) None) (and_right (not (is_setting_off past)) (is_enabled life event past) off);
}

pub disabled_events_go_on : DisabledEventsGoOnWhereTheyStood
disabled_events_go_on life event past [] disabled = refl
disabled_events_go_on life event past (ops.Enable condition fulfilled ∷ between) disabled = disabled_events_go_on life event past between disabled
disabled_events_go_on life event past (ops.Report other report ∷ between) disabled =
    ap (λ h. with_happening h (happenings life event (between ++ past))) ((disabled_events_are_left life event (between ++ past) disabled.0).reports other report)
    ∙ disabled_events_go_on life event past between disabled.1
disabled_events_go_on life event past (ops.Tick ticks ∷ between) disabled =
    ap (λ h. with_happening h (happenings life event (between ++ past))) ((disabled_events_are_left life event (between ++ past) disabled.0).ticks ticks)
    ∙ disabled_events_go_on life event past between disabled.1
disabled_events_go_on life event past (ops.Cycle cycle ∷ between) disabled =
    ap (λ h. with_happening h (happenings life event (between ++ past))) disabled.0 ∙ disabled_events_go_on life event past between disabled.1
disabled_events_go_on life event past (ops.Request tester bytes ∷ between) disabled =
    ap (λ h. with_happening h (happenings life event (between ++ past))) disabled.0 ∙ disabled_events_go_on life event past between disabled.1
disabled_events_go_on life event past (ops.Signal index value ∷ between) disabled = disabled_events_go_on life event past between disabled
disabled_events_go_on life event past (ops.Show other ∷ between) disabled = disabled_events_go_on life event past between disabled
disabled_events_go_on life event past (ops.Snapshot ∷ between) disabled = disabled_events_go_on life event past between disabled
disabled_events_go_on life event past (ops.Saved generation ∷ between) disabled = disabled_events_go_on life event past between disabled

pub disabled_events_are_ended_and_cleared : DisabledEventsAreEndedAndCleared
disabled_events_are_ended_and_cleared life event past = record { cycles = λ cycle. refl; requests = λ tester bytes. refl }

-- ---- an event that is enabled

pub events_without_needs : EventsWithoutNeedsAreEnabled
events_without_needs life event past none = ap (λ needs. are_met needs (conditions past)) none

fulfilled_at_first : (condition : ℕ) (past : History) → HasNoEnable past → is_fulfilled condition past ≡ true
fulfilled_at_first condition [] none = refl
fulfilled_at_first condition (ops.Enable other fulfilled ∷ past) none = absurd none
fulfilled_at_first condition (ops.Signal index value ∷ past) none = fulfilled_at_first condition past none
fulfilled_at_first condition (ops.Report event report ∷ past) none = fulfilled_at_first condition past none
fulfilled_at_first condition (ops.Tick ticks ∷ past) none = fulfilled_at_first condition past none
fulfilled_at_first condition (ops.Cycle cycle ∷ past) none = fulfilled_at_first condition past none
fulfilled_at_first condition (ops.Request tester bytes ∷ past) none = fulfilled_at_first condition past none
fulfilled_at_first condition (ops.Show event ∷ past) none = fulfilled_at_first condition past none
fulfilled_at_first condition (ops.Snapshot ∷ past) none = fulfilled_at_first condition past none
fulfilled_at_first condition (ops.Saved generation ∷ past) none = fulfilled_at_first condition past none

one_more : (needed fulfilled others : Bool) → fulfilled ≡ true → others ≡ true → ((not needed || fulfilled) && others) ≡ true
one_more needed fulfilled others is rest = and_from (not needed || fulfilled) others (or_right (not needed) fulfilled is) rest

pub events_are_enabled : EventsAreEnabledAtFirst
events_are_enabled life event past none =
    let fulfilled = λ (c : ℕ). fulfilled_at_first c past none in
    one_more _ _ _ (fulfilled 0) (one_more _ _ _ (fulfilled 1) (one_more _ _ _ (fulfilled 2) (one_more _ _ _ (fulfilled 3)
    (one_more _ _ _ (fulfilled 4) (one_more _ _ _ (fulfilled 5) (one_more _ _ _ (fulfilled 6) (one_more _ _ _ (fulfilled 7) refl)))))))
