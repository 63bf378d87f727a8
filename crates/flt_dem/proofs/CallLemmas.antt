-- How the parts of the events make a call.
use Rattle.std.proofs.Common.{◌≡◌, ◌∙◌, ◌≢◌, ℕ, suc, ◌+◌, ◌<◌, nat_lt, cond, List, ◌∷◌, Option, Some, None, arith, refl, sym, ap, subst, eq-eqb, ⊎_elim, add-one}
use Rattle.std.proofs.lemmas.Bool.{cases_eq, cases_lt, ne_eqb, lt-ltb, le-ltb}
use Rattle.flt_model.specs.Start.{Start, History, count, event_of}
use Rattle.flt_model.specs.Mark.{Trace, AllCleared}
use Rattle.flt_model.specs.Debounce.{Happening, Happenings, debounced}
use Rattle.flt_model.specs.Happening.{happening_of, happenings, with_happening, cleared_dtc, all_dtcs}
use Rattle.flt_model.specs.Trace.{trace, event_part, in_order, with_marks, with_clear}
use Rattle.flt_model.specs.declared.call.DebState.{DebState}
use Rattle.flt_model.specs.declared.call.Op.{Op}
use Rattle.flt_dem.specs.DurablePart.{DurablePartView}
use Rattle.flt_dem.specs.Events.{EventsView}
use Rattle.flt_dem.specs.Standing.{DurablePartStands}
use Rattle.flt_dem.specs.Debounces.{DebouncesStand, and_happening}
use Rattle.flt_dem.specs.Calls.{StandsAfter, StandsPartly, TakesPart, items_partly, marks_partly}
use Rattle.flt_dem.proofs.OrderLemmas.{in_order-none, in_order-one}

-- The same happenings, said in another way.
pub debounces_same : (life : Start) (items others : ℕ → Happenings) (debounces : List DebState) → ((event : ℕ) → event < count life → items event ≡ others event) →
    DebouncesStand life items debounces → DebouncesStand life others debounces
debounces_same life items others debounces same s = record {
  one_each = s.one_each;
  each = λ event h. s.each event h ∙ ap (λ own. Some (debounced (event_of life event).debounce own)) (same event h);
}

-- What an event is after one more happening of an event.
pub and_happening-own : (event : ℕ) (happening : Option Happening) (items : ℕ → Happenings) → and_happening event happening items event ≡ with_happening happening (items event)
and_happening-own event happening items = ap (λ b. cond b (with_happening happening (items event)) (items event)) (eq-eqb event event refl)

pub and_happening-other : (event other : ℕ) (happening : Option Happening) (items : ℕ → Happenings) → event ≢ other → and_happening event happening items other ≡ items other
and_happening-other event other happening items ne = ap (λ b. cond b (with_happening happening (items other)) (items other)) (ne_eqb event other ne)

below_other : (event done : ℕ) → event ≢ done → nat_lt event (suc done) ≡ nat_lt event done
below_other event done ne =
    ⊎_elim
    (λ h. lt-ltb event (suc done) (omega arith) ∙ sym (lt-ltb event done h))
    (λ h. le-ltb event (suc done) (omega arith) ∙ sym (le-ltb event done h))
    (cases_lt event done)

module _ (life : Start) (past : History) (op : Op) where
  own_items : (done : ℕ) → items_partly life past op done done ≡ happenings life done past
  own_items done = ap (λ b. cond b (happenings life done (op ∷ past)) (happenings life done past)) (le-ltb done done (omega arith))

  next_items : (done event : ℕ) → and_happening done (happening_of life done past op) (items_partly life past op done) event ≡ items_partly life past op (suc done) event
  next_items done event =
      ⊎_elim
      (λ same. subst (λ x. and_happening done (happening_of life done past op) (items_partly life past op done) x ≡ items_partly life past op (suc done) x) same
      (and_happening-own done (happening_of life done past op) (items_partly life past op done)
      ∙ ap (λ items. with_happening (happening_of life done past op) items) (own_items done)
      ∙ ap (λ b. cond b (happenings life done (op ∷ past)) (happenings life done past)) (sym (lt-ltb done (suc done) (omega arith)))))
      (λ ne. and_happening-other done event (happening_of life done past op) (items_partly life past op done) ne
      ∙ ap (λ b. cond b (happenings life event (op ∷ past)) (happenings life event past)) (sym (below_other event done (λ d. ne (sym d)))))
      (cases_eq done event)

  -- Before the first event.
  pub partly_first : (events : EventsView) → StandsAfter life past events → StandsPartly life past op 0 events
  partly_first events s = record {
    debounces_stand = debounces_same life (λ event. happenings life event past) (items_partly life past op 0) events.debounces
        (λ event h. ap (λ b. cond b (happenings life event (op ∷ past)) (happenings life event past)) (sym (le-ltb event 0 (omega arith)))) s.debounces_stand;
    durable_stands = s.durable_stands;
  }

  -- One more event takes its part.
  pub partly_next : (done : ℕ) (old new : EventsView) → TakesPart life past op done old new →
      StandsPartly life past op done old → StandsPartly life past op (done + 1) new
  partly_next done old new takes s =
      let taken = takes (items_partly life past op done) (marks_partly life past op done) (own_items done) s in
      rw add-one (record {
        debounces_stand = debounces_same life (and_happening done (happening_of life done past op) (items_partly life past op done)) (items_partly life past op (suc done)) new.debounces
            (λ event h. next_items done event) taken.debounces_stand;
        durable_stands = taken.durable_stands;
      })

  no_part : (event : ℕ) (marks : Trace) → happening_of life event past op ≡ None → event_part life past op event marks ≡ marks
  no_part event marks none = ap (λ h. with_marks life event past h marks) none

  -- A call that reaches one event is its part.
  pub stands_one : (event : ℕ) (old new : EventsView) → event < count life → ((marks : Trace) → with_clear (cleared_dtc op) marks ≡ marks) →
      ((other : ℕ) → other ≢ event → happening_of life other past op ≡ None) → TakesPart life past op event old new →
      StandsAfter life past old → StandsAfter life (op ∷ past) new
  stands_one event old new within clears others takes s =
      let taken = takes (λ e. happenings life e past) (trace life past) refl s in
      let whole : in_order (event_part life past op) (count life) (trace life past) ≡ event_part life past op event (trace life past) =
      in_order-one (event_part life past op) event (count life) (trace life past) within (λ other marks ne. no_part other marks (others other ne)) in
      record {
        debounces_stand = debounces_same life (and_happening event (happening_of life event past op) (λ e. happenings life e past)) (λ e. happenings life e (op ∷ past)) new.debounces
            (λ other h. ⊎_elim
            (λ same. subst (λ x. and_happening event (happening_of life event past op) (λ e. happenings life e past) x ≡ happenings life x (op ∷ past)) same
            (and_happening-own event (happening_of life event past op) (λ e. happenings life e past)))
            (λ ne. and_happening-other event other (happening_of life event past op) (λ e. happenings life e past) ne
            ∙ ap (λ happening. with_happening happening (happenings life other past)) (sym (others other (λ d. ne (sym d)))))
            (cases_eq event other))
            taken.debounces_stand;
        durable_stands = subst (λ m. DurablePartStands life m new.durable) (sym (clears (in_order (event_part life past op) (count life) (trace life past)) ∙ whole)) taken.durable_stands;
      }

  -- A call that reaches no event leaves them.
  pub stands_none : (events : EventsView) → ((marks : Trace) → with_clear (cleared_dtc op) marks ≡ marks) →
      ((event : ℕ) → event < count life → happening_of life event past op ≡ None) →
      StandsAfter life past events → StandsAfter life (op ∷ past) events
  stands_none events clears none s =
      let whole : in_order (event_part life past op) (count life) (trace life past) ≡ trace life past =
      in_order-none (event_part life past op) (count life) (trace life past) (λ event marks h. no_part event marks (none event h)) in
      record {
        debounces_stand = debounces_same life (λ e. happenings life e past) (λ e. happenings life e (op ∷ past)) events.debounces
            (λ event h. ap (λ happening. with_happening happening (happenings life event past)) (sym (none event h))) s.debounces_stand;
        durable_stands = subst (λ m. DurablePartStands life m events.durable) (sym (clears (in_order (event_part life past op) (count life) (trace life past)) ∙ whole)) s.durable_stands;
      }

  -- Once each event is cleared, all are.
  pub partly_cleared : (events : EventsView) (last : DurablePartView) → cleared_dtc op ≡ Some all_dtcs → StandsPartly life past op (count life) events →
      DurablePartStands life (AllCleared ∷ marks_partly life past op (count life)) last → StandsAfter life (op ∷ past) (record events { durable = last })
  partly_cleared events last clears s stands = record {
    debounces_stand = debounces_same life (items_partly life past op (count life)) (λ event. happenings life event (op ∷ past)) events.debounces
        (λ event h. ap (λ b. cond b (happenings life event (op ∷ past)) (happenings life event past)) (lt-ltb event (count life) h)) s.debounces_stand;
    durable_stands = subst (λ d. DurablePartStands life (with_clear d (marks_partly life past op (count life))) last) (sym clears) stands;
  }
