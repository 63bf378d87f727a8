-- What a tester may read of the events is what the calls so far make of it.
use Rattle.std.proofs.Common.{◌≡◌, ◌∙◌, ℕ, zero, suc, ◌<◌, ◌++◌, [], ◌∷◌, length, map, get_or, List, unwrap_or, arith, refl, sym, ap}
use Rattle.std.proofs.lemmas.List.{map-append, get_or_default}
use Rattle.std.proofs.lemmas.Option.{unwrap_or-slice_get}
use Rattle.std.specs.Prelude.{slice_get}
use Rattle.flt_config.specs.Durable.{start_state}
use Rattle.flt_model.specs.Start.{Start, History, count, event_of, no_event}
use Rattle.flt_model.specs.Debounce.{debounced, detection_counter}
use Rattle.flt_model.specs.Durable.{below, state_at}
use Rattle.flt_model.specs.Happening.{happenings}
use Rattle.flt_model.specs.Response.{EventView}
use Rattle.flt_model.specs.Trace.{trace}
use Rattle.flt_model.specs.Answer.{event_view, view}
use Rattle.flt_model.specs.declared.call.DebState.TheVariants.{Idle}
use Rattle.flt_dem.specs.Manager.{Manager, StandsFor}
use Rattle.flt_dem.specs.View.{rules_of, detection_counter_of, event_seen, noted_at, manager_view}
use Rattle.flt_dem.proofs.SavedLemmas.{entry_found}

-- What is read of a list at a place within it, whatever the defaults past its end are.
pub read_within : {A : Type 0} (xs : List A) (place : ℕ) (d e : A) → place < length xs → get_or xs place d ≡ unwrap_or (slice_get xs place) e
read_within xs place d e within = get_or_default xs place d e within ∙ sym (unwrap_or-slice_get xs place e)

-- Two readings that agree below a number.
map_below : (f g : ℕ → EventView) (n : ℕ) → ((k : ℕ) → k < n → f k ≡ g k) → map f (below n) ≡ map g (below n)
map_below f g zero same = refl
map_below f g (suc n) same =
    map-append f (below n) (n ∷ [])
    ∙ ap (λ front. front ++ f n ∷ []) (map_below f g n (λ k under. same k (omega arith)))
    ∙ ap (λ last. map g (below n) ++ last ∷ []) (same n (omega arith))
    ∙ sym (map-append g (below n) (n ∷ []))

module _ (life : Start) (past : History) (manager : Manager) (s : StandsFor life past manager) where
  seen : (event : ℕ) → event < count life → event_seen manager event ≡ event_view life past (trace life past) event
  seen event within =
      let durable = s.events.durable_stands in
      let rules : rules_of manager event ≡ event_of life event = ap (λ k. unwrap_or (slice_get k.events.items event) no_event) (sym durable.config) in
      let state : unwrap_or (slice_get manager.durable.states event) start_state ≡ state_at life (trace life past) event =
      ap (λ o. unwrap_or o start_state) (durable.states_stand.each event within) in
      let debouncing : unwrap_or (slice_get manager.debounces event) Idle ≡ debounced (event_of life event).debounce (happenings life event past) =
      ap (λ o. unwrap_or o Idle) (s.events.debounces_stand.each event within) in
      let entry = entry_found life (trace life past) event manager.durable.memory.entries durable.memory_stands.entries in
      λ i. record {
        dtc = (rules i).dtc;
        dids = (rules i).dids.items;
        state = state i;
        entry = entry i;
        counter = detection_counter (rules i).debounce (debouncing i);
      }

  pub counter_told : (event : ℕ) → event < count life → detection_counter_of manager event ≡ (event_view life past (trace life past) event).counter
  counter_told event within = ap (λ view. view.counter) (seen event within)

  pub view_told : manager_view manager ≡ view life past (trace life past)
  view_told =
      let durable = s.events.durable_stands in
      let events = ap (λ k. map (event_seen manager) (below (length k.events.items))) (sym durable.config)
      ∙ map_below (event_seen manager) (event_view life past (trace life past)) (count life) seen in
      λ i. record {
        events = events i;
        noted = λ sub. noted_at (durable.notes i) sub;
      }
