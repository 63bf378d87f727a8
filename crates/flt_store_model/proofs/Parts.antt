-- Which parts fit, by their tests: with the rest of any state that has one state for each event.
use Rattle.std.proofs.Common.{◌≡◌, ◌⊎◌, ℕ, ◌+◌, ◌-◌, ◌<◌, ◌≤◌, [], ◌∷◌, true, List, length, refl, sym, ◌∙◌, subst, arith, inl, inr, ap, ◌&&◌}
use Rattle.std.specs.Prelude.{slice_index_or, slice_get, Option}
use Rattle.std.proofs.lemmas.Bool.{cases_lt, and_from, le-leb}
use Rattle.std.proofs.lemmas.List.{get_or_default, get_or_past}
use Rattle.std.proofs.lemmas.Option.{slice_get-get_or, slice_get_cases, get_or_from_slice_get}
use Rattle.flt_config.specs.declared.config.Config.{Config}
use Rattle.flt_config.specs.declared.config.EventCfg.{EventCfg}
use Rattle.flt_config.specs.declared.persist.Persist.{Persist}
use Rattle.flt_config.specs.declared.persist.EventState.{EventState}
use Rattle.flt_config.specs.declared.persist.EntryState.{EntryState}
use Rattle.flt_config.specs.Durable.{Fits, AreStatesOf, IsStateOf, IsEntryOf, start_state}
use Rattle.flt_store_model.specs.Fit.{state_fits_at, states_fit, part_fits, place_fits, entry_fits_at, is_alone}
use Rattle.flt_store_model.specs.Reading.{with_states}
use Rattle.flt_store_model.proofs.Choices.{all_at, all_from}
use Rattle.flt_store_model.proofs.Fitting.{state_by_test, test_of_state, test_of_noted, test_of_entry, alone_by}
use Rattle.flt_store_model.proofs.States.{state_kept, length-with_states}
use Rattle.flt_store_model.specs.declared.part.Part.{Part}
use Rattle.flt_store_model.specs.declared.part.Part.TheVariants.{Summary, States, Entry}

-- States that fit pass, in each block.
pub states_pass : (events : List EventCfg) (states : List EventState) (first count : ℕ) → AreStatesOf events states → states_fit events states first count ≡ true
unfolding states_fit
states_pass events states first count are =
    all_from (λ place. state_fits_at (slice_get events (first + place)) (slice_index_or states (first + place) start_state)) 0 count
    (λ k below. subst (λ (n : ℕ). state_fits_at (slice_get events (first + n)) (slice_index_or states (first + n) start_state) ≡ true) (omega arith) (at k))
  where
    at : (k : ℕ) → state_fits_at (slice_get events (first + k)) (slice_index_or states (first + k) start_state) ≡ true
    at k = elim (slice_get_cases events (first + k)).1 [
      | inl found ↦
          let here : slice_index_or events (first + k) found.0 ≡ found.0 = get_or_from_slice_get events (first + k) found.0 found.0 found.2 in
          subst (λ (o : Option EventCfg). state_fits_at o (slice_index_or states (first + k) start_state) ≡ true) (sym found.2)
          (test_of_state found.0 (slice_index_or states (first + k) start_state)
          (subst (λ (e : EventCfg). IsStateOf e (slice_index_or states (first + k) start_state)) here (are.fitting (first + k) found.0 start_state found.1)))
      | inr past ↦ subst (λ (o : Option EventCfg). state_fits_at o (slice_index_or states (first + k) start_state) ≡ true) (sym past.1) refl
    ]

-- A state that passes in its block fits.
pub state_passes : (events : List EventCfg) (states : List EventState) (first count : ℕ) → states_fit events states first count ≡ true
    → (place : ℕ) → place < count → (event : EventCfg) → first + place < length events → IsStateOf (slice_index_or events (first + place) event) (slice_index_or states (first + place) start_state)
unfolding states_fit
state_passes events states first count fits place below event within =
    let passes : state_fits_at (slice_get events (first + place)) (slice_index_or states (first + place) start_state) ≡ true =
    subst (λ (n : ℕ). state_fits_at (slice_get events (first + n)) (slice_index_or states (first + n) start_state) ≡ true) (omega arith)
    (all_at (λ k. state_fits_at (slice_get events (first + k)) (slice_index_or states (first + k) start_state)) 0 count fits place below) in
    state_by_test (slice_index_or events (first + place) event) (slice_index_or states (first + place) start_state)
    (subst (λ (o : Option EventCfg). state_fits_at o (slice_index_or states (first + place) start_state) ≡ true) (slice_get-get_or events (first + place) event within) passes)

-- A block of states that pass, set in states that fit, leaves states that fit.
pub set_states_fit : (events : List EventCfg) (held : List ℕ) (first : ℕ) (states : List EventState) → AreStatesOf events states
    → states_fit events (with_states held first 16 states) first 16 ≡ true → AreStatesOf events (with_states held first 16 states)
set_states_fit events held first states are fits = record { one_each = length-with_states held first states 16 ∙ are.one_each; fitting = fitting }
  where
    after : List EventState
    after = with_states held first 16 states

    outside : (k : ℕ) (event : EventCfg) (state : EventState) → k < length events → (k < first) ⊎ (first + 16 ≤ k) → IsStateOf (slice_index_or events k event) (slice_index_or after k state)
    outside k event state below out = subst (λ (s : EventState). IsStateOf (slice_index_or events k event) s) (sym (state_kept held first states 16 k state out)) (are.fitting k event state below)

    inside : (k : ℕ) (event : EventCfg) (state : EventState) → k < length events → first ≤ k → k < first + 16 → IsStateOf (slice_index_or events k event) (slice_index_or after k state)
    inside k event state below low high =
        let same : first + (k - first) ≡ k = omega (arith, low) in
        let size : k < length after = omega (arith, length-with_states held first states 16, are.one_each, below) in
        subst (λ (s : EventState). IsStateOf (slice_index_or events k event) s) (get_or_default after k start_state state size)
        (subst (λ (n : ℕ). IsStateOf (slice_index_or events n event) (slice_index_or after n start_state)) same
        (state_passes events after first 16 fits (k - first) (omega (arith, low, high)) event (omega (arith, same, below))))

    fitting : (k : ℕ) (event : EventCfg) (state : EventState) → k < length events → IsStateOf (slice_index_or events k event) (slice_index_or after k state)
    fitting k event state below = elim (cases_lt k first) [
      | inl low ↦ outside k event state below (inl low)
      | inr from ↦ elim (cases_lt k (first + 16)) [
        | inl high ↦ inside k event state below from high
        | inr past ↦ outside k event state below (inr past)
      ]
    ]

-- The clean counts of states that fit leave room for the bit next to them.
pub states_short : (events : List EventCfg) (states : List EventState) → AreStatesOf events states → (k : ℕ) → (slice_index_or states k start_state).clean < 0x8000
states_short events states are k = elim (cases_lt k (length events)) [
  | inl within ↦ inside events are k within
  | inr past ↦ subst (λ (s : EventState). s.clean < 0x8000) (sym (get_or_past states k start_state (omega (arith, are.one_each, past)))) (omega arith)
]
  where
    inside : (given : List EventCfg) → AreStatesOf given states → (k : ℕ) → k < length given → (slice_index_or states k start_state).clean < 0x8000
    inside [] given k within = absurd (omega (arith, within))
    inside (event ∷ rest) given k within = omega (arith, (given.fitting k event start_state within).clean)

-- Each part of a state that fits does.
pub part_of_fitting : (c : Config) (p : Persist) → Fits c p → (part : Part) → part_fits c p part ≡ true
part_of_fitting c p fits Summary =
    and_from _ _ (and_from _ _ (and_from _ _ (and_from _ _ (le-leb _ c.memory fits.room) (test_of_noted c.events.items p.first_failed fits.first_failed))
    (test_of_noted c.events.items p.first_confirmed fits.first_confirmed)) (test_of_noted c.events.items p.recent_failed fits.recent_failed)) (test_of_noted c.events.items p.recent_confirmed fits.recent_confirmed)
part_of_fitting c p fits (States first) = states_pass c.events.items p.events.items first 16 fits.states
part_of_fitting c p fits (Entry place) = elim (slice_get_cases p.entries.items place).1 [
  | inl found ↦ subst (λ (o : Option EntryState). place_fits c.events.items p.entries.items place o ≡ true) (sym found.2) (there found.0 found.1 found.3)
  | inr past ↦ subst (λ (o : Option EntryState). place_fits c.events.items p.entries.items place o ≡ true) (sym past.1) refl
]
  where
    there : (entry : EntryState) → place < length p.entries.items → slice_index_or p.entries.items place entry ≡ entry → (entry_fits_at (slice_get c.events.items entry.event) entry && is_alone p.entries.items place entry.event) ≡ true
    there entry within here =
        and_from _ _ (test_of_entry c.events.items entry (subst (IsEntryOf c.events.items) here (fits.entries place entry within)))
        (alone_by p.entries.items place entry.event (λ k d below apart.
        let same : (slice_index_or p.entries.items place d).event ≡ entry.event = ap (λ (e : EntryState). e.event) (get_or_default p.entries.items place d entry within ∙ here) in
        elim (cases_lt k place) [
          | inl before ↦ (λ e. fits.distinct k place d before within (e ∙ sym same))
          | inr behind ↦ (λ e. fits.distinct place k d (omega (arith, behind, apart)) below (same ∙ sym e))
        ]))
