-- The states of a block: set in a list of states, and put into bytes.
use Rattle.std.proofs.Common.{◌≡◌, ◌⊎◌, ℕ, zero, suc, ◌+◌, ◌<◌, ◌≤◌, ◌++◌, [], ◌∷◌, true, map, List, length, refl, sym, ◌∙◌, ap, subst, arith, inl, inr, set, length-set}
use Rattle.std.specs.Prelude.{slice_index_or, slice_get}
use Rattle.std.specs.List.{concat, range_with_len}
use Rattle.std.proofs.lemmas.Bool.{cases_eq}
use Rattle.std.proofs.lemmas.List.{append-nil, get_or-set_same, get_or-set_other}
use Rattle.std.proofs.lemmas.List.FromFn.{map-range_with_len_more}
use Rattle.std.proofs.lemmas.List.Folds.{concat-append}
use Rattle.flt_config.specs.declared.persist.EventState.{EventState}
use Rattle.flt_config.specs.declared.config.EventCfg.{EventCfg}
use Rattle.flt_config.specs.Durable.{start_state}
use Rattle.flt_store_model.specs.Form.{state_bytes, first_states}
use Rattle.flt_store_model.specs.Fit.{state_fits_at, states_fit}
use Rattle.flt_store_model.specs.Reading.{state_from, with_states}
use Rattle.flt_store_model.proofs.Choices.{all_at, all_from}

-- One state more is put.
pub first_states_more : (states : List EventState) (first count : ℕ) → first_states states first (count + 1) ≡ first_states states first count ++ state_bytes (slice_index_or states (first + count) start_state)
unfolding first_states
first_states_more states first count =
    ap concat (map-range_with_len_more (λ place. state_bytes (slice_index_or states (first + place) start_state)) 0 count count (omega arith))
    ∙ concat-append (map (λ place. state_bytes (slice_index_or states (first + place) start_state)) (range_with_len 0 count)) (state_bytes (slice_index_or states (first + count) start_state) ∷ [])
    ∙ ap (λ (bytes : List ℕ). concat (map (λ place. state_bytes (slice_index_or states (first + place) start_state)) (range_with_len 0 count)) ++ bytes) (append-nil (state_bytes (slice_index_or states (first + count) start_state)))

pub no_states : (states : List EventState) (first : ℕ) → first_states states first 0 ≡ []
unfolding first_states
no_states states first = refl

-- The same states give the same bytes.
pub same_states : (xs ys : List EventState) (first count : ℕ) → ((place : ℕ) → place < count → slice_index_or xs (first + place) start_state ≡ slice_index_or ys (first + place) start_state)
    → first_states xs first count ≡ first_states ys first count
same_states xs ys first zero same = no_states xs first ∙ sym (no_states ys first)
same_states xs ys first (suc count) same =
    subst (λ (n : ℕ). first_states xs first n ≡ first_states ys first n) (omega arith)
    (first_states_more xs first count
    ∙ ap (λ (bytes : List ℕ). bytes ++ state_bytes (slice_index_or xs (first + count) start_state)) (same_states xs ys first count (λ place below. same place (omega (arith, below))))
    ∙ ap (λ (state : EventState). first_states ys first count ++ state_bytes state) (same count (omega arith))
    ∙ sym (first_states_more ys first count))

module _ (held : List ℕ) (first : ℕ) (states : List EventState) where
  -- One state more is set.
  pub with_states_more : (count : ℕ) → with_states held first (count + 1) states ≡ set (with_states held first count states) (first + count) (state_from held count)
  unfolding with_states
  with_states_more count =
      let more : count + 1 ≡ suc count = omega arith in
      ap (λ (n : ℕ). with_states held first n states) more

  pub no_states_set : with_states held first 0 states ≡ states
  unfolding with_states
  no_states_set = refl

  pub length-with_states : (count : ℕ) → length (with_states held first count states) ≡ length states
  unfolding with_states
  length-with_states zero = refl
  length-with_states (suc count) = length-set (with_states held first count states) (first + count) (state_from held count) ∙ length-with_states count

  -- Within the block each state is that in the bytes, and elsewhere it is as it was.
  pub state_set : (count place : ℕ) (d : EventState) → place < count → first + place < length states → slice_index_or (with_states held first count states) (first + place) d ≡ state_from held place
  unfolding with_states
  state_set zero place d below within = absurd (omega (arith, below))
  state_set (suc count) place d below within = elim (cases_eq place count) [
    | inl same ↦
        subst (λ (n : ℕ). slice_index_or (set (with_states held first count states) (first + count) (state_from held count)) (first + n) d ≡ state_from held n) (sym same)
        (get_or-set_same (with_states held first count states) (first + count) (state_from held count) d (omega (arith, length-with_states count, within, same)))
    | inr other ↦
        get_or-set_other (with_states held first count states) (first + count) (first + place) (state_from held count) d (λ e. other (omega (arith, e)))
        ∙ state_set count place d (omega (arith, below, other)) within
  ]

  pub state_kept : (count k : ℕ) (d : EventState) → (k < first) ⊎ (first + count ≤ k) → slice_index_or (with_states held first count states) k d ≡ slice_index_or states k d
  unfolding with_states
  state_kept zero k d out = refl
  state_kept (suc count) k d out =
      get_or-set_other (with_states held first count states) (first + count) k (state_from held count) d (λ e. elim out [ inl low ↦ omega (arith, low, e) | inr high ↦ omega (arith, high, e) ])
      ∙ state_kept count k d (elim out [ inl low ↦ inl low | inr high ↦ inr (omega (arith, high)) ])

-- Such states pass together.
pub pass_together : (events : List EventCfg) (xs ys : List EventState) (first count : ℕ) → ((place : ℕ) → place < count → slice_index_or xs (first + place) start_state ≡ slice_index_or ys (first + place) start_state)
    → states_fit events xs first count ≡ true → states_fit events ys first count ≡ true
unfolding states_fit
pass_together events xs ys first count same fits =
    all_from (λ place. state_fits_at (slice_get events (first + place)) (slice_index_or ys (first + place) start_state)) 0 count
    (λ k below. subst (λ (n : ℕ). state_fits_at (slice_get events (first + n)) (slice_index_or ys (first + n) start_state) ≡ true) (omega arith)
    (subst (λ (state : EventState). state_fits_at (slice_get events (first + k)) state ≡ true) (same k below)
    (subst (λ (n : ℕ). state_fits_at (slice_get events (first + n)) (slice_index_or xs (first + n) start_state) ≡ true) (omega arith)
    (all_at (λ place. state_fits_at (slice_get events (first + place)) (slice_index_or xs (first + place) start_state)) 0 count fits k below))))
