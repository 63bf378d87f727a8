-- Where no event needs a condition, calls on conditions make no difference.
use Rattle.std.proofs.Common.{◌≡◌, ◌∙◌, ℕ, zero, suc, Bool, true, false, not, ◌&&◌, ◌==◌, cond, List, [], ◌∷◌, map, Option, Some, None, refl, sym, ap}
use Rattle.std.specs.Prelude.{is_none}
use Rattle.flt_model.specs.declared.call.Op.{Op}
use Rattle.flt_model.specs.declared.call.Op.TheVariants as ops
use Rattle.flt_model.specs.Start.{Start, History, count, event_of}
use Rattle.flt_model.specs.Mark.{Trace, Of}
use Rattle.flt_model.specs.Mark.Mark.{Clear}
use Rattle.flt_model.specs.Debounce.{Happening, Reported, Ticked, Ended, Cleared, qualified}
use Rattle.flt_model.specs.Session.{silence, is_extended, holds_off, is_setting_off}
use Rattle.flt_model.specs.Happening.{is_started, signal, signals, is_enabled, readiness, cause_of, counts_ticks, own_report, reported_where, happening_of, with_happening, happenings, cleared_dtc}
use Rattle.flt_model.specs.Trace.{trace, with_clear, in_order, event_part, with_marks, with_result, with_cycle, result_of}
use Rattle.flt_model.specs.Durable.{below, saved}
use Rattle.flt_model.specs.Response.{response}
use Rattle.flt_model.specs.Answer.{answer, answer_report, event_view, view}
use Rattle.flt_model.specs.EnableLaws.{NeedsNothing, without_conditions, ConditionsThatNobodyNeeds}
use Rattle.flt_model.proofs.EnableLaws.{seen, events_without_needs}

-- Two lists of calls that mean the same, but for the conditions.
pub record AreAlike (life : Start) (p q : History) : Type 0 where
  pub silence : (tester : ℕ) → silence tester p ≡ silence tester q
  pub extended : (tester : ℕ) → is_extended tester p ≡ is_extended tester q
  pub holds : (tester : ℕ) → holds_off tester p ≡ holds_off tester q
  pub started : (cycle : ℕ) → is_started cycle p ≡ is_started cycle q
  pub signal : (index : ℕ) → signal index p ≡ signal index q
  pub happened : (event : ℕ) → happenings life event p ≡ happenings life event q
  pub traced : trace life p ≡ trace life q

module _ (life : Start) (needless : NeedsNothing life) (p q : History) (alike : AreAlike life p q) where
  off_alike : is_setting_off p ≡ is_setting_off q
  off_alike = rw (alike.holds 0, alike.holds 1, alike.holds 2, alike.holds 3) refl

  signals_alike : signals p ≡ signals q
  signals_alike =
      rw (alike.signal 0, alike.signal 1, alike.signal 2, alike.signal 3, alike.signal 4, alike.signal 5, alike.signal 6, alike.signal 7) refl

  enabled_alike : (event : ℕ) → is_enabled life event p ≡ is_enabled life event q
  enabled_alike event = events_without_needs life event p (needless event) ∙ sym (events_without_needs life event q (needless event))

  ready_alike : (event : ℕ) → readiness life event p ≡ readiness life event q
  ready_alike event =
      ap (λ off. seen (not off) (is_started (event_of life event).cycle p) (is_enabled life event p)) off_alike
      ∙ ap (λ started. seen (not (is_setting_off q)) started (is_enabled life event p)) (alike.started (event_of life event).cycle)
      ∙ ap (seen (not (is_setting_off q)) (is_started (event_of life event).cycle q)) (enabled_alike event)

  own_alike : (event : ℕ) (own : Bool) → own_report life event p own ≡ own_report life event q own
  own_alike event true = ap (λ r. Some (is_none (cause_of r))) (ready_alike event)
  own_alike event false = refl

  ticks_alike : (event : ℕ) → counts_ticks life event p ≡ counts_ticks life event q
  ticks_alike event =
      ap (λ off. not off && is_enabled life event p) off_alike ∙ ap (λ enabled. not (is_setting_off q) && enabled) (enabled_alike event)

  happening_alike : (event : ℕ) (op : Op) → happening_of life event p op ≡ happening_of life event q op
  happening_alike event (ops.Report other report) = ap (λ own. reported_where own (Reported report)) (own_alike event (other == event))
  happening_alike event (ops.Tick ticks) = ap (λ b. cond b (Some (Ticked ticks)) None) (ticks_alike event)
  happening_alike event _ = refl

  result_alike : (event : ℕ) (happening : Happening) (marks : Trace) →
      with_result life (signals p) event (result_of life event p happening) marks ≡ with_result life (signals q) event (result_of life event q happening) marks
  result_alike event happening marks =
      ap (λ values. with_result life values event (result_of life event p happening) marks) signals_alike
      ∙ ap (λ past. with_result life (signals q) event (qualified (event_of life event).debounce past happening) marks) (alike.happened event)

  marks_alike : (event : ℕ) (happening : Option Happening) (marks : Trace) → with_marks life event p happening marks ≡ with_marks life event q happening marks
  marks_alike event None marks = refl
  marks_alike event (Some (Reported report)) marks = result_alike event (Reported report) marks
  marks_alike event (Some (Ticked ticks)) marks = result_alike event (Ticked ticks) marks
  marks_alike event (Some Ended) marks = ap (λ values. with_cycle life values event marks) signals_alike
  marks_alike event (Some Cleared) marks = ap (λ values. Of event Clear values ∷ marks) signals_alike

  part_alike : (op : Op) (event : ℕ) (marks : Trace) → event_part life p op event marks ≡ event_part life q op event marks
  part_alike op event marks =
      ap (λ happening. with_marks life event p happening marks) (happening_alike event op) ∙ marks_alike event (happening_of life event q op) marks

  parts_alike : (op : Op) (n : ℕ) (marks : Trace) → in_order (event_part life p op) n marks ≡ in_order (event_part life q op) n marks
  parts_alike op zero marks = refl
  parts_alike op (suc n) marks =
      part_alike op n (in_order (event_part life p op) n marks) ∙ ap (event_part life q op n) (parts_alike op n marks)

  trace_alike : (op : Op) → trace life (op ∷ p) ≡ trace life (op ∷ q)
  trace_alike op =
      ap (with_clear (cleared_dtc op)) (parts_alike op (count life) (trace life p) ∙ ap (in_order (event_part life q op) (count life)) alike.traced)

  silence_alike : (tester : ℕ) (op : Op) → silence tester (op ∷ p) ≡ silence tester (op ∷ q)
  silence_alike tester (ops.Tick ticks) = rw (alike.silence tester) refl
  silence_alike tester (ops.Request other bytes) = rw (alike.silence tester) refl
  silence_alike tester _ = alike.silence tester

  extended_alike : (tester : ℕ) (op : Op) → is_extended tester (op ∷ p) ≡ is_extended tester (op ∷ q)
  extended_alike tester (ops.Tick ticks) = rw (alike.silence tester, alike.extended tester) refl
  extended_alike tester (ops.Request other bytes) = rw (alike.extended tester) refl
  extended_alike tester _ = alike.extended tester

  holds_alike : (tester : ℕ) (op : Op) → holds_off tester (op ∷ p) ≡ holds_off tester (op ∷ q)
  holds_alike tester (ops.Tick ticks) = rw (alike.silence tester, alike.extended tester, alike.holds tester) refl
  holds_alike tester (ops.Request other bytes) = rw (alike.extended tester, alike.holds tester) refl
  holds_alike tester _ = alike.holds tester

  started_alike : (cycle : ℕ) (op : Op) → is_started cycle (op ∷ p) ≡ is_started cycle (op ∷ q)
  started_alike cycle (ops.Cycle other) = rw (alike.started cycle) refl
  started_alike cycle _ = alike.started cycle

  signal_alike : (index : ℕ) (op : Op) → signal index (op ∷ p) ≡ signal index (op ∷ q)
  signal_alike index (ops.Signal other value) = rw (alike.signal index) refl
  signal_alike index _ = alike.signal index

  happened_alike : (event : ℕ) (op : Op) → happenings life event (op ∷ p) ≡ happenings life event (op ∷ q)
  happened_alike event op =
      ap (λ happening. with_happening happening (happenings life event p)) (happening_alike event op)
      ∙ ap (with_happening (happening_of life event q op)) (alike.happened event)

  -- One more call on both sides.
  alike_more : (op : Op) → AreAlike life (op ∷ p) (op ∷ q)
  alike_more op = record {
    silence = λ tester. silence_alike tester op;
    extended = λ tester. extended_alike tester op;
    holds = λ tester. holds_alike tester op;
    started = λ cycle. started_alike cycle op;
    signal = λ index. signal_alike index op;
    happened = λ event. happened_alike event op;
    traced = trace_alike op;
  }

  no_parts : (condition : ℕ) (fulfilled : Bool) (n : ℕ) (marks : Trace) → in_order (event_part life p (ops.Enable condition fulfilled)) n marks ≡ marks
  no_parts condition fulfilled zero marks = refl
  no_parts condition fulfilled (suc n) marks = no_parts condition fulfilled n marks

  -- A call on a condition on one side.
  alike_but_condition : (condition : ℕ) (fulfilled : Bool) → AreAlike life (ops.Enable condition fulfilled ∷ p) q
  alike_but_condition condition fulfilled = record {
    silence = alike.silence;
    extended = alike.extended;
    holds = alike.holds;
    started = alike.started;
    signal = alike.signal;
    happened = alike.happened;
    traced = no_parts condition fulfilled (count life) (trace life p) ∙ alike.traced;
  }

  view_alike : (marks : Trace) (event : ℕ) → event_view life p marks event ≡ event_view life q marks event
  view_alike marks event = rw (alike.happened event) refl

  views_alike : (marks : Trace) (events : List ℕ) → map (event_view life p marks) events ≡ map (event_view life q marks) events
  views_alike marks [] = refl
  views_alike marks (event ∷ events) =
      ap (λ first. first ∷ map (event_view life p marks) events) (view_alike marks event)
      ∙ ap (λ rest. event_view life q marks event ∷ rest) (views_alike marks events)

  answers_alike : (op : Op) → answer life p op ≡ answer life q op
  answers_alike (ops.Report event report) = ap answer_report (ready_alike event)
  answers_alike (ops.Show event) = rw (alike.traced, alike.happened event) refl
  answers_alike (ops.Request tester bytes) =
      ap (λ marks. response (view life p marks) (is_extended tester p) bytes.items) alike.traced
      ∙ ap (λ events. response (record (view life q (trace life q)) { events = events }) (is_extended tester p) bytes.items)
      (views_alike (trace life q) (below (count life)))
      ∙ ap (λ extended. response (view life q (trace life q)) extended bytes.items) (alike.extended tester)
  answers_alike _ = refl

-- The calls are alike without those on conditions.
alike_without : (life : Start) (past : History) → NeedsNothing life → AreAlike life past (without_conditions past)
alike_without life [] needless = record {
  silence = λ tester. refl;
  extended = λ tester. refl;
  holds = λ tester. refl;
  started = λ cycle. refl;
  signal = λ index. refl;
  happened = λ event. refl;
  traced = refl;
}
alike_without life (ops.Enable condition fulfilled ∷ past) needless =
    alike_but_condition life needless past (without_conditions past) (alike_without life past needless) condition fulfilled
alike_without life (op ∷ past) needless = alike_more life needless past (without_conditions past) (alike_without life past needless) op

pub conditions_that_nobody_needs : ConditionsThatNobodyNeeds
conditions_that_nobody_needs life past needless =
    let alike = alike_without life past needless in
    record {
      answers = answers_alike life needless past (without_conditions past) alike;
      state = ap (saved life) alike.traced;
    }
