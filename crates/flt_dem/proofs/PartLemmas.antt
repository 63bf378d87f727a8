-- The part that one event takes of a report, of ticks and of the end of a cycle.
use Rattle.std.proofs.Common.{◌≡◌, ◌≢◌, ◌∙◌, ℕ, Bool, true, false, not, ◌&&◌, cond, List, ◌∷◌, Option, Some, None, refl, sym, ap, subst, eq-eqb, ⊎_elim}
use Rattle.std.proofs.lemmas.Bool.{cases_eq, ne_eqb}
use Rattle.arrayvec.specs.ArrayVec.{ArrayVec}
use Rattle.flt_config.specs.declared.config.EventCfg.{EventCfg}
use Rattle.flt_model.specs.Start.{Start, History, event_of}
use Rattle.flt_model.specs.Mark.{Trace, Of}
use Rattle.flt_model.specs.Mark.Mark.{Clear}
use Rattle.flt_model.specs.Debounce.{Happening, Happenings, Reported, Ticked, Ended, Cleared, qualified}
use Rattle.flt_model.specs.Happening.{happening_of, happenings, signals as signals_after, own_report, reported_where, conditions, are_met, is_enabled, counts_report, counts_ticks, cleared_dtc, happening_of_clear, cleared_where, reaches}
use Rattle.flt_model.specs.Session.{is_setting_off}
use Rattle.flt_model.specs.Trace.{event_part, with_marks, with_result, with_cycle}
use Rattle.flt_model.specs.declared.call.Op.{Op}
use Rattle.flt_model.specs.declared.call.Op.TheVariants as ops
use Rattle.flt_model.specs.declared.call.Qualified.{Qualified}
use Rattle.flt_model.specs.declared.call.Report.{Report}
use Rattle.flt_dem.specs.Events.{EventsView}
use Rattle.flt_dem.specs.Standing.{DurablePartStands}
use Rattle.flt_dem.specs.Debounces.{DebouncesStand, and_happening}
use Rattle.flt_dem.specs.Calls.{StandsWith}
use Rattle.flt_dem.proofs.CallLemmas.{debounces_same, and_happening-own, and_happening-other}

-- Whether ticks count for an event, with the setting on, is whether the conditions are met that it needs.
pub ticks_count : (life : Start) (past : History) (event : ℕ) (rules : EventCfg) (fulfilled : List Bool) (met : Bool) → is_setting_off past ≡ false →
    rules ≡ event_of life event → fulfilled ≡ conditions past → met ≡ are_met rules.needs fulfilled → counts_ticks life event past ≡ met
ticks_count life past event rules fulfilled met on rules_are fulfilled_are is =
    ap (λ off. not off && is_enabled life event past) on
    ∙ sym (is ∙ ap (λ k. are_met k.needs fulfilled) rules_are ∙ ap (are_met (event_of life event).needs) fulfilled_are)

-- The happening that a call is for an event decides its part.
part_of : (life : Start) (past : History) (op : Op) (event : ℕ) (happening : Option Happening) (items : ℕ → Happenings) (marks : Trace) (events : EventsView) →
    happening_of life event past op ≡ happening → DebouncesStand life (and_happening event happening items) events.debounces → DurablePartStands life (with_marks life event past happening marks) events.durable →
    StandsWith life (and_happening event (happening_of life event past op) items) (event_part life past op event marks) events
part_of life past op event happening items marks events is d f = record {
  debounces_stand = subst (λ h. DebouncesStand life (and_happening event h items) events.debounces) (sym is) d;
  durable_stands = subst (λ h. DurablePartStands life (with_marks life event past h marks) events.durable) (sym is) f;
}

module _ (life : Start) (past : History) (event : ℕ) (items : ℕ → Happenings) (marks : Trace) (events : EventsView) (own : items event ≡ happenings life event past) where
  -- What the happening qualifies, with the signals of the moment.
  result_is : (happening : Happening) (signals : List ℕ) (outcome : Option Qualified) → signals ≡ signals_after past → outcome ≡ qualified (event_of life event).debounce (items event) happening →
      DurablePartStands life (with_result life signals event outcome marks) events.durable →
      DurablePartStands life (with_result life (signals_after past) event (qualified (event_of life event).debounce (happenings life event past) happening) marks) events.durable
  result_is happening signals outcome signals_are outcome_is f =
      subst (λ o. DurablePartStands life (with_result life (signals_after past) event o marks) events.durable)
      (outcome_is ∙ ap (λ before. qualified (event_of life event).debounce before happening) own)
      (subst (λ values. DurablePartStands life (with_result life values event outcome marks) events.durable) signals_are f)

  -- A call that is nothing for the event.
  part_of_none : (op : Op) → happening_of life event past op ≡ None → StandsWith life items marks events →
      StandsWith life (and_happening event (happening_of life event past op) items) (event_part life past op event marks) events
  part_of_none op is s =
      part_of life past op event None items marks events is
      (debounces_same life items (and_happening event None items) events.debounces (λ other h.
      ⊎_elim (λ same. subst (λ x. items x ≡ and_happening event None items x) same (sym (and_happening-own event None items)))
      (λ apart. sym (and_happening-other event other None items apart)) (cases_eq event other)) s.debounces_stand)
      s.durable_stands

  pub part_of_ticks : (ticks : ℕ) (signals : List ℕ) (outcome : Option Qualified) → counts_ticks life event past ≡ true → signals ≡ signals_after past →
      outcome ≡ qualified (event_of life event).debounce (items event) (Ticked ticks) → DebouncesStand life (and_happening event (Some (Ticked ticks)) items) events.debounces →
      DurablePartStands life (with_result life signals event outcome marks) events.durable →
      StandsWith life (and_happening event (happening_of life event past (ops.Tick ticks)) items) (event_part life past (ops.Tick ticks) event marks) events
  part_of_ticks ticks signals outcome counts signals_are outcome_is d f =
      let is : happening_of life event past (ops.Tick ticks) ≡ Some (Ticked ticks) = ap (λ b. cond b (Some (Ticked ticks)) None) counts in
      part_of life past (ops.Tick ticks) event (Some (Ticked ticks)) items marks events is d (result_is (Ticked ticks) signals outcome signals_are outcome_is f)

  pub part_of_no_ticks : (ticks : ℕ) → counts_ticks life event past ≡ false → StandsWith life items marks events →
      StandsWith life (and_happening event (happening_of life event past (ops.Tick ticks)) items) (event_part life past (ops.Tick ticks) event marks) events
  part_of_no_ticks ticks counts s = part_of_none (ops.Tick ticks) (ap (λ b. cond b (Some (Ticked ticks)) None) counts) s

  pub part_of_report : (report : Report) (signals : List ℕ) (outcome : Option Qualified) → counts_report life event past ≡ true → signals ≡ signals_after past →
      outcome ≡ qualified (event_of life event).debounce (items event) (Reported report) → DebouncesStand life (and_happening event (Some (Reported report)) items) events.debounces →
      DurablePartStands life (with_result life signals event outcome marks) events.durable →
      StandsWith life (and_happening event (happening_of life event past (ops.Report event report)) items) (event_part life past (ops.Report event report) event marks) events
  part_of_report report signals outcome counts signals_are outcome_is d f =
      let is : happening_of life event past (ops.Report event report) ≡ Some (Reported report) =
      ap (λ b. reported_where (own_report life event past b) (Reported report)) (eq-eqb event event refl)
      ∙ ap (λ b. reported_where (Some b) (Reported report)) counts in
      part_of life past (ops.Report event report) event (Some (Reported report)) items marks events is d (result_is (Reported report) signals outcome signals_are outcome_is f)

  pub part_of_own_cycle : (cycle : ℕ) → (event_of life event).cycle ≡ cycle → DebouncesStand life (and_happening event (Some Ended) items) events.debounces →
      DurablePartStands life (with_cycle life (signals_after past) event marks) events.durable →
      StandsWith life (and_happening event (happening_of life event past (ops.Cycle cycle)) items) (event_part life past (ops.Cycle cycle) event marks) events
  part_of_own_cycle cycle same d f =
      let is : happening_of life event past (ops.Cycle cycle) ≡ Some Ended = ap (λ b. cond b (Some Ended) None) (eq-eqb cycle (event_of life event).cycle (sym same)) in
      part_of life past (ops.Cycle cycle) event (Some Ended) items marks events is d f

  pub part_of_other_cycle : (cycle : ℕ) → (event_of life event).cycle ≢ cycle → StandsWith life items marks events →
      StandsWith life (and_happening event (happening_of life event past (ops.Cycle cycle)) items) (event_part life past (ops.Cycle cycle) event marks) events
  part_of_other_cycle cycle ne s =
      part_of_none (ops.Cycle cycle) (ap (λ b. cond b (Some Ended) None) (ne_eqb cycle (event_of life event).cycle (λ d. ne (sym d)))) s

-- A report of one event is none of another's.
pub other_report : (life : Start) (past : History) (event other : ℕ) (report : Report) → other ≢ event → happening_of life other past (ops.Report event report) ≡ None
other_report life past event other report ne =
    ap (λ b. reported_where (own_report life other past b) (Reported report)) (ne_eqb event other (λ d. ne (sym d)))

-- A report that does not count is ignored.
pub ignored_report : (life : Start) (past : History) (event other : ℕ) (report : Report) → counts_report life event past ≡ false → happening_of life other past (ops.Report event report) ≡ None
ignored_report life past event other report ignored =
    ⊎_elim
    (λ same. subst (λ x. happening_of life x past (ops.Report event report) ≡ None) same
    (ap (λ b. reported_where (own_report life event past b) (Reported report)) (eq-eqb event event refl)
    ∙ ap (λ b. reported_where (Some b) (Reported report)) ignored))
    (λ ne. other_report life past event other report (λ d. ne (sym d)))
    (cases_eq event other)

-- A clear of a DTC that reaches the event.
pub part_of_clear : (life : Start) (past : History) (event tester dtc : ℕ) (bytes : ArrayVec ℕ) (items : ℕ → Happenings) (marks : Trace) (events : EventsView) →
    cleared_dtc (ops.Request tester bytes) ≡ Some dtc → reaches life event dtc ≡ true → DebouncesStand life (and_happening event (Some Cleared) items) events.debounces →
    DurablePartStands life (Of event Clear (signals_after past) ∷ marks) events.durable →
    StandsWith life (and_happening event (happening_of life event past (ops.Request tester bytes)) items) (event_part life past (ops.Request tester bytes) event marks) events
part_of_clear life past event tester dtc bytes items marks events clears reached d f =
    let is : happening_of life event past (ops.Request tester bytes) ≡ Some Cleared =
    ap (λ c. happening_of_clear life event c) clears ∙ ap (λ b. cleared_where b) reached in
    part_of life past (ops.Request tester bytes) event (Some Cleared) items marks events is d f

-- A clear of a DTC that does not.
pub other_clear : (life : Start) (past : History) (event tester dtc : ℕ) (bytes : ArrayVec ℕ) → cleared_dtc (ops.Request tester bytes) ≡ Some dtc → reaches life event dtc ≡ false →
    happening_of life event past (ops.Request tester bytes) ≡ None
other_clear life past event tester dtc bytes clears other = ap (λ c. happening_of_clear life event c) clears ∙ ap (λ b. cleared_where b) other
