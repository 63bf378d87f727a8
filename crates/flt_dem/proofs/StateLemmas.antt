-- What one more mark does to the states.
use Rattle.std.proofs.Common.{◌≡◌, ◌∙◌, ◌≢◌, ℕ, ◌<◌, nat_eq, Bool, true, false, cond, List, ◌∷◌, get_or, Some, arith, refl, sym, ap, subst, eq-eqb, ⊎_elim, inl, inr}
use Rattle.std.proofs.Math.ListN.{length-set}
use Rattle.std.proofs.lemmas.Bool.{cases_Bool, cases_eq, ne_eqb}
use Rattle.std.proofs.lemmas.Option.{get_or_from_slice_get}
use Rattle.std.specs.Prelude.{slice_get, slice_set}
use Rattle.flt_config.specs.declared.config.EventCfg.{EventCfg}
use Rattle.flt_config.specs.declared.persist.EventState.{EventState}
use Rattle.flt_model.specs.Start.{Start, count, event_of, base_of}
use Rattle.flt_model.specs.Mark.{Mark, Trace, Of, marks_of, own}
use Rattle.flt_model.specs.Mark.Mark.{Cycle, Aged, Added, Refused}
use Rattle.flt_model.specs.Status.{durable, ages}
use Rattle.flt_model.specs.Trace.{with_cycle, aged_where}
use Rattle.flt_status.specs.Standing.{with_cycle_end as with_marks_of_cycle}
use Rattle.flt_model.specs.Durable.{state_at}
use Rattle.flt_dem.specs.Standing.{StatesStand}
use Rattle.flt_model.proofs.Common.{slice_get-set_same, slice_get-set_other}

-- Another event's mark leaves a state.
pub other_state : (life : Start) (event other : ℕ) (mark : Mark) (signals : List ℕ) (marks : Trace) → event ≢ other → state_at life (Of event mark signals ∷ marks) other ≡ state_at life marks other
other_state life event other mark signals marks ne = rw (ne_eqb event other ne) refl

-- Marks that change one event's state.
pub state_changed : (life : Start) (event : ℕ) (before now : Trace) (states : List EventState) (new : EventState) → event < count life →
    new ≡ state_at life now event → ((other : ℕ) → event ≢ other → state_at life now other ≡ state_at life before other) → StatesStand life before states →
    StatesStand life now (slice_set states event new)
state_changed life event before now states new within is others s = record {
  one_each = length-set states event new ∙ s.one_each;
  each = λ other h. ⊎_elim
      (λ same. subst (λ x. slice_get (slice_set states event new) x ≡ Some (state_at life now x)) same
      (slice_get-set_same states event new (omega (arith, s.one_each)) ∙ ap Some is))
      (λ ne. slice_get-set_other states event other new ne ∙ s.each other h ∙ ap Some (sym (others other ne)))
      (cases_eq event other);
}

-- One mark of one event.
pub state_marked : (life : Start) (event : ℕ) (mark : Mark) (signals : List ℕ) (marks : Trace) (states : List EventState) (new : EventState) → event < count life →
    new ≡ durable (base_of life event) (event_of life event) (mark ∷ marks_of event marks) → StatesStand life marks states →
    StatesStand life (Of event mark signals ∷ marks) (slice_set states event new)
state_marked life event mark signals marks states new within is s =
    state_changed life event marks (Of event mark signals ∷ marks) states new within
    (is ∙ ap (λ b. durable (base_of life event) (event_of life event) (own b mark (marks_of event marks))) (sym (eq-eqb event event refl)))
    (λ other ne. other_state life event other mark signals marks ne) s

-- The end of a cycle of one event, where it may age.
cycled_own : (life : Start) (event : ℕ) (signals : List ℕ) (marks : Trace) (aged : Bool) →
    state_at life (aged_where signals event aged (Of event Cycle signals ∷ marks)) event
    ≡ durable (base_of life event) (event_of life event) (cond aged (Aged ∷ Cycle ∷ marks_of event marks) (Cycle ∷ marks_of event marks))
cycled_own life event signals marks true = rw (eq-eqb event event refl) refl
cycled_own life event signals marks false = rw (eq-eqb event event refl) refl

cycled_other : (life : Start) (event other : ℕ) (signals : List ℕ) (marks : Trace) (aged : Bool) → event ≢ other →
    state_at life (aged_where signals event aged (Of event Cycle signals ∷ marks)) other ≡ state_at life marks other
cycled_other life event other signals marks true ne = rw (ne_eqb event other ne) refl
cycled_other life event other signals marks false ne = rw (ne_eqb event other ne) refl

pub state_cycled : (life : Start) (event : ℕ) (signals : List ℕ) (marks : Trace) (states : List EventState) (new : EventState) → event < count life →
    new ≡ durable (base_of life event) (event_of life event) (with_marks_of_cycle (event_of life event) (base_of life event) (marks_of event marks)) → StatesStand life marks states →
    StatesStand life (with_cycle life signals event marks) (slice_set states event new)
state_cycled life event signals marks states new within is s =
    let aged = ages (base_of life event) (event_of life event) (marks_of event marks) in
    state_changed life event marks (with_cycle life signals event marks) states new within
    (is ∙ sym (cycled_own life event signals marks aged))
    (λ other ne. cycled_other life event other signals marks aged ne) s

-- Being added, or refused, leaves the states.
added_state : (life : Start) (event other : ℕ) (signals : List ℕ) (marks : Trace) → state_at life (Of event Added signals ∷ marks) other ≡ state_at life marks other
added_state life event other signals marks = elim (cases_Bool (nat_eq event other)) [ inl e ↦ rw e refl | inr e ↦ rw e refl ]

refused_state : (life : Start) (event other : ℕ) (signals : List ℕ) (marks : Trace) → state_at life (Of event Refused signals ∷ marks) other ≡ state_at life marks other
refused_state life event other signals marks = elim (cases_Bool (nat_eq event other)) [ inl e ↦ rw e refl | inr e ↦ rw e refl ]

pub states_added : (life : Start) (event : ℕ) (signals : List ℕ) (marks : Trace) (states : List EventState) → StatesStand life marks states → StatesStand life (Of event Added signals ∷ marks) states
states_added life event signals marks states s = record { one_each = s.one_each; each = λ other h. s.each other h ∙ ap Some (sym (added_state life event other signals marks)) }

pub states_refused : (life : Start) (event : ℕ) (signals : List ℕ) (marks : Trace) (states : List EventState) → StatesStand life marks states → StatesStand life (Of event Refused signals ∷ marks) states
states_refused life event signals marks states s = record { one_each = s.one_each; each = λ other h. s.each other h ∙ ap Some (sym (refused_state life event other signals marks)) }

-- What a callee is lent where a slice of states is indexed.
abbrev pub blank : EventState
blank = record { status = 0; failed = 0; clean = 0; lit = false }

pub read_state : (life : Start) (event : ℕ) (marks : Trace) (states : List EventState) → event < count life → StatesStand life marks states → get_or states event blank ≡ state_at life marks event
read_state life event marks states within s = get_or_from_slice_get states event (state_at life marks event) blank (s.each event within)

-- The state of an event that is lent is what its marks made of it.
pub was_state : (life : Start) (event : ℕ) (rules : EventCfg) (marks : Trace) (states lent : List EventState) → lent ≡ states → rules ≡ event_of life event → event < count life →
    StatesStand life marks states → get_or lent event blank ≡ durable (base_of life event) rules (marks_of event marks)
was_state life event rules marks states lent is found within s =
    ap (λ xs. get_or xs event blank) is ∙ read_state life event marks states within s ∙ ap (λ k. durable (base_of life event) k (marks_of event marks)) (sym found)
