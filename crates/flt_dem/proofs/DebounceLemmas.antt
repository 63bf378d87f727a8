-- What one more happening does to the debouncing of the events.
use Rattle.std.proofs.Common.{◌≡◌, ◌∙◌, ℕ, ◌<◌, cond, List, ◌∷◌, length, get_or, pos, Some, arith, refl, sym, ap, subst, eq-eqb, ⊎_elim}
use Rattle.std.proofs.Math.ListN.{length-set}
use Rattle.std.proofs.lemmas.Bool.{cases_eq, ne_eqb}
use Rattle.std.proofs.lemmas.Option.{get_or_from_slice_get}
use Rattle.std.specs.Prelude.{slice_get, slice_set}
use Rattle.std.specs.List.{refill}
use Rattle.std.proofs.lemmas.Option.{slice_get-get_or}
use Rattle.flt_config.specs.declared.config.Config.{Config}
use Rattle.flt_config.specs.declared.config.EventCfg.{EventCfg}
use Rattle.flt_model.specs.Start.{Start, count, event_of}
use Rattle.flt_model.specs.Debounce.{Happening, Happenings, IsOfKind, debounced}
use Rattle.flt_model.specs.declared.call.DebState.{DebState}
use Rattle.flt_model.specs.declared.call.DebState.TheVariants.{Count}
use Rattle.flt_dem.specs.Debounces.{DebouncesStand, AreOfKind, and_happening}
use Rattle.flt_dem.specs.Events.{IsOfConfig}
use Rattle.flt_dem.proofs.ReadLemmas.{refill-set}
use Rattle.flt_model.proofs.Common.{slice_get-set_same, slice_get-set_other}

-- What a callee is lent where a slice of debounce states is indexed.
abbrev pub blank : DebState
blank = Count (pos 0)

-- The debouncing of an event is read.
pub read_debounce : (life : Start) (items : ℕ → Happenings) (event : ℕ) (debounces : List DebState) → event < count life → DebouncesStand life items debounces →
    get_or debounces event blank ≡ debounced (event_of life event).debounce (items event)
read_debounce life items event debounces within s =
    get_or_from_slice_get debounces event (debounced (event_of life event).debounce (items event)) blank (s.each event within)

-- One more happening of one event.
pub debounced_more : (life : Start) (event : ℕ) (happening : Happening) (items : ℕ → Happenings) (debounces : List DebState) (new : DebState) → event < count life →
    new ≡ debounced (event_of life event).debounce (happening ∷ items event) → DebouncesStand life items debounces →
    DebouncesStand life (and_happening event (Some happening) items) (slice_set debounces event new)
debounced_more life event happening items debounces new within is s = record {
  one_each = length-set debounces event new ∙ s.one_each;
  each = λ other h. ⊎_elim
      (λ same. subst (λ x. slice_get (slice_set debounces event new) x ≡ Some (debounced (event_of life x).debounce (and_happening event (Some happening) items x))) same
      (slice_get-set_same debounces event new (omega (arith, s.one_each)) ∙ ap Some is
      ∙ ap (λ b. Some (debounced (event_of life event).debounce (cond b (happening ∷ items event) (items event)))) (sym (eq-eqb event event refl))))
      (λ ne. slice_get-set_other debounces event other new ne ∙ s.each other h
      ∙ ap (λ b. Some (debounced (event_of life other).debounce (cond b (happening ∷ items other) (items other)))) (sym (ne_eqb event other ne)))
      (cases_eq event other);
}

-- A state of the event's kind in place of its own.
pub kind_kept : (events : List EventCfg) (debounces : List DebState) (event : ℕ) (rules : EventCfg) (new : DebState) → event < length debounces →
    slice_get events event ≡ Some rules → IsOfKind rules.debounce new → AreOfKind events debounces → AreOfKind events (slice_set debounces event new)
kind_kept events debounces event rules new within is kind kinds other other_rules state found at =
    ⊎_elim
    (λ same.
    let here : slice_get events event ≡ Some other_rules = ap (λ x. slice_get events x) same ∙ found in
    let which : rules ≡ other_rules = cc (is, here) in
    let there : slice_get (slice_set debounces event new) event ≡ Some state = ap (λ x. slice_get (slice_set debounces event new) x) same ∙ at in
    let now : new ≡ state = cc (slice_get-set_same debounces event new within, there) in
    subst (λ r. IsOfKind r.debounce state) which (subst (λ x. IsOfKind rules.debounce x) now kind))
    (λ ne. kinds other other_rules state found (sym (slice_get-set_other debounces event other new ne) ∙ at))
    (cases_eq event other)

-- ---- one event's debouncing that is lent

-- It is what its happenings made of it.
pub was_debounced : (life : Start) (items : ℕ → Happenings) (event : ℕ) (rules : EventCfg) (debounces lent : List DebState) → lent ≡ debounces → rules ≡ event_of life event →
    event < count life → DebouncesStand life items debounces → get_or lent event blank ≡ debounced rules.debounce (items event)
was_debounced life items event rules debounces lent is found within s =
    ap (λ xs. get_or xs event blank) is ∙ read_debounce life items event debounces within s ∙ ap (λ k. debounced k.debounce (items event)) (sym found)

module _ (config : Config) (debounces lent : List DebState) (event : ℕ) (rules : EventCfg) (found : slice_get config.events.items event ≡ Some rules) (is : lent ≡ debounces)
    (within : event < length config.events.items) (of_config : IsOfConfig config debounces) where
  -- It is of the event's kind.
  pub kind_read : IsOfKind rules.debounce (get_or lent event blank)
  kind_read =
      let inside : event < length debounces = omega (arith, of_config.one_each) in
      of_config.kinds event rules (get_or lent event blank) found
      (slice_get-get_or debounces event blank inside ∙ ap Some (ap (λ xs. get_or xs event blank) (sym is)))

  -- And where another of this kind comes back, each is.
  pub kept_of_config : (now : Config) (new : DebState) → now ≡ config → IsOfKind rules.debounce new →
      IsOfConfig now (refill (length debounces) debounces (slice_set lent event new))
  kept_of_config now new same kind =
      subst (λ k. IsOfConfig k (refill (length debounces) debounces (slice_set lent event new))) (sym same)
      (subst (λ xs. IsOfConfig config xs) (sym (refill-set debounces lent event new is)) (record {
        one_each = length-set debounces event new ∙ of_config.one_each;
        kinds = kind_kept config.events.items debounces event rules new (omega (arith, of_config.one_each)) found kind of_config.kinds;
      }))
