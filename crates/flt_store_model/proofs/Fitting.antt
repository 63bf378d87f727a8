-- The tests of a part, and what they say.
use Rattle.std.proofs.Common.{inl, inr, ◌≡◌, ℕ, ◌^◌, ◌<◌, Bool, true, false, not, ◌&&◌, List, length, refl, sym, ◌∙◌, ap, subst, Option, Some, None, arith, ◌≢◌, ◌+◌, [], ◌∷◌, take, drop, position, length-take, length-drop}
use Rattle.std.specs.Prelude.{IsTrue, IsBitSet, bit_and, nat_lt, if◌then◌else◌, slice_get, slice_index_or, ◌↔◌, is_none}
use Rattle.std.proofs.lemmas.Bool.{and_parts, and_from, leb-true, le-leb, ltb-true, lt-ltb, eqb-true, eqb-false, eq-eqb, ne_eqb, not-true, not-false, not_from_false, false_from_ne_true, le-ltb}
use Rattle.flt_config.specs.declared.config.EventCfg.{EventCfg}
use Rattle.flt_config.specs.declared.persist.EventState.{EventState}
use Rattle.flt_config.specs.declared.persist.EntryState.{EntryState}
use Rattle.flt_config.specs.Ranges.{frame_width}
use Rattle.flt_config.specs.Durable.{IsStateOf, IsEntryOf, IsNoted, is_of_event}
use Rattle.std.proofs.lemmas.Option.{slice_get_cases, get_or_from_slice_get}
use Rattle.flt_store_model.specs.Fit.{has_bit, state_fits, note_fits, entry_fits_at, is_alone}
use Rattle.flt_store_model.proofs.Choices.{chosen, not_chosen}
use Rattle.std.specs.List.{position_or_len}
use Rattle.std.proofs.lemmas.List.{get_or-take, get_or-drop}
use Rattle.std.proofs.lemmas.List.Sums.{position_or_len_is}

bit_is : (status k worth : ℕ) → worth ≡ 2 ^ k → has_bit status worth ≡ true → IsBitSet status k
bit_is status k worth is set = λ none. eqb-false (bit_and status worth) 0 (not-true _ set) (ap (bit_and status) is ∙ none)

pub noted_by_test : (events : List EventCfg) (note : Option ℕ) → note_fits events note ≡ true → IsNoted events note
noted_by_test events None fits = tt
noted_by_test events (Some event) fits = ltb-true event (length events) fits

pub test_of_noted : (events : List EventCfg) (note : Option ℕ) → IsNoted events note → note_fits events note ≡ true
test_of_noted events None is = refl
test_of_noted events (Some event) is = lt-ltb event (length events) is

-- A state that passes fits its event, and one that fits passes.
pub state_by_test : (event : EventCfg) (state : EventState) → state_fits event state ≡ true → IsStateOf event state
unfolding state_fits
state_by_test event state fits =
    let a = and_parts _ _ fits in
    let b = and_parts _ _ a.0 in
    let d = and_parts _ _ b.0 in
    let e = and_parts _ _ d.0 in
    record {
      status = leb-true state.status 255 e.0;
      failed = leb-true state.failed 255 e.1;
      clean = leb-true state.clean 510 d.1;
      warning = warns state.lit (nat_lt state.clean event.heal) refl refl b.1;
      lit = λ is.
          let both = and_parts (has_bit state.status 8) event.indicator (sym (chosen state.lit (has_bit state.status 8 && event.indicator) true is) ∙ a.1) in
          (bit_is state.status 3 8 refl both.0, both.1);
    }
  where
    bit : ℕ → Bool
    bit worth = has_bit state.status worth

    warns : (lit short : Bool) → state.lit ≡ lit → nat_lt state.clean event.heal ≡ short
        → (if lit && short then has_bit state.status 128 else not (has_bit state.status 128)) ≡ true
        → IsBitSet state.status 7 ↔ (IsTrue state.lit × (state.clean < event.heal))
    warns true true lit short set = (λ _. (lit, ltb-true state.clean event.heal short), λ _. bit_is state.status 7 128 refl set)
    warns true false lit short clear = (λ set. absurd (set (eqb-true (bit_and state.status 128) 0 (not-false _ (not-true _ clear)))), λ both. let yes = lt-ltb state.clean event.heal both.1 in absurd (cc))
    warns false short lit _ clear = (λ set. absurd (set (eqb-true (bit_and state.status 128) 0 (not-false _ (not-true _ clear)))), λ both. let yes = both.0 in absurd (cc))

-- A bit that is set passes, and one that is clear does not.
bit_set : (status k worth : ℕ) → worth ≡ 2 ^ k → IsBitSet status k → has_bit status worth ≡ true
bit_set status k worth is set = not_from_false _ (ne_eqb (bit_and status worth) 0 (λ none. set (sym (ap (bit_and status) is) ∙ none)))

bit_clear : (status k worth : ℕ) → worth ≡ 2 ^ k → (IsBitSet status k → ⊥) → not (has_bit status worth) ≡ true
bit_clear status k worth is clear = not_from_false _ (false_from_ne_true (has_bit status worth) (λ yes. clear (bit_is status k worth is yes)))

pub test_of_state : (event : EventCfg) (state : EventState) → IsStateOf event state → state_fits event state ≡ true
unfolding state_fits
test_of_state event state is =
    and_from _ _
    (and_from _ _ (and_from _ _ (and_from _ _ (le-leb state.status 255 is.status) (le-leb state.failed 255 is.failed)) (le-leb state.clean 510 is.clean))
    (warning state.lit (nat_lt state.clean event.heal) refl refl))
    (lights state.lit refl)
  where
    warning : (lit short : Bool) → state.lit ≡ lit → nat_lt state.clean event.heal ≡ short
        → (if lit && short then has_bit state.status 128 else not (has_bit state.status 128)) ≡ true
    warning true true lit short = bit_set state.status 7 128 refl (is.warning.1 (lit, ltb-true state.clean event.heal short))
    warning true false lit short = bit_clear state.status 7 128 refl (λ set. let yes = lt-ltb state.clean event.heal (is.warning.0 set).1 in absurd (cc))
    warning false short lit _ = bit_clear state.status 7 128 refl (λ set. let yes = (is.warning.0 set).0 in absurd (cc))

    lights : (lit : Bool) → state.lit ≡ lit → (if lit then has_bit state.status 8 && event.indicator else true) ≡ true
    lights true lit = and_from (has_bit state.status 8) event.indicator (bit_set state.status 3 8 refl (is.lit lit).0) (is.lit lit).1
    lights false lit = refl

-- An entry of an event that is configured, and its test.
pub entry_by_test : (events : List EventCfg) (entry : EntryState) → entry_fits_at (slice_get events entry.event) entry ≡ true → IsEntryOf events entry
entry_by_test events entry fits = elim (slice_get_cases events entry.event).1 [
  | inl found ↦
      let event = found.0 in
      let passes : entry_fits_at (Some event) entry ≡ true = subst (λ (o : Option EventCfg). entry_fits_at o entry ≡ true) found.2 fits in
      let a = and_parts _ _ passes in
      let b = and_parts _ _ a.0 in
      let d = and_parts _ _ b.0 in
      let is : (e : EventCfg) → slice_index_or events entry.event e ≡ event = λ e. get_or_from_slice_get events entry.event event e found.2 in
      record {
        event = found.1;
        occurrence = (leb-true 1 entry.occurrence d.0, leb-true entry.occurrence 255 d.1);
        first = λ e. eqb-true _ _ b.1 ∙ ap (λ (x : EventCfg). frame_width x.dids.items) (sym (is e));
        recent = λ e. eqb-true _ _ a.1 ∙ ap (λ (x : EventCfg). frame_width x.dids.items) (sym (is e));
      }
  | inr past ↦ absurd (let none : entry_fits_at None entry ≡ true = subst (λ (o : Option EventCfg). entry_fits_at o entry ≡ true) past.1 fits in cc)
]

pub test_of_entry : (events : List EventCfg) (entry : EntryState) → IsEntryOf events entry → entry_fits_at (slice_get events entry.event) entry ≡ true
test_of_entry events entry is = elim (slice_get_cases events entry.event).1 [
  | inl found ↦
      let event = found.0 in
      let here : slice_index_or events entry.event event ≡ event = get_or_from_slice_get events entry.event event event found.2 in
      subst (λ (o : Option EventCfg). entry_fits_at o entry ≡ true) (sym found.2)
      (and_from _ _ (and_from _ _ (and_from _ _ (le-leb 1 entry.occurrence is.occurrence.0) (le-leb entry.occurrence 255 is.occurrence.1))
      (eq-eqb _ _ (is.first event ∙ ap (λ (x : EventCfg). frame_width x.dids.items) here)))
      (eq-eqb _ _ (is.recent event ∙ ap (λ (x : EventCfg). frame_width x.dids.items) here)))
  | inr past ↦ absurd (omega (arith, is.event, past.0))
]

-- No element passes.
pub none_passes : {X : Type 0} (test : X → Bool) (xs : List X) → ((k : ℕ) (d : X) → k < length xs → test (slice_index_or xs k d) ≡ false) → position test xs ≡ None
none_passes test [] fails = refl
none_passes test (x ∷ xs) fails =
    let end = position_or_len_is test (x ∷ xs) (length (x ∷ xs)) x (omega arith) (λ k below. fails k x below) (λ past. absurd (omega (arith, past))) in
    not_chosen (nat_lt (position_or_len test (x ∷ xs)) (length (x ∷ xs))) (Some (position_or_len test (x ∷ xs))) None (le-ltb (position_or_len test (x ∷ xs)) (length (x ∷ xs)) (omega (arith, end)))

-- An entry is the only one of its event, where each other one is of another.
pub alone_by : (entries : List EntryState) (place event : ℕ) → ((k : ℕ) (d : EntryState) → k < length entries → k ≢ place → (slice_index_or entries k d).event ≢ event) → is_alone entries place event ≡ true
alone_by entries place event others = and_from _ _ (ap is_none (none_passes (is_of_event event) (take place entries) front)) (ap is_none (none_passes (is_of_event event) (drop (place + 1) entries) back))
  where
    front : (k : ℕ) (d : EntryState) → k < length (take place entries) → is_of_event event (slice_index_or (take place entries) k d) ≡ false
    front k d below =
        let before : k < place = omega (arith, below, length-take place entries) in
        ap (is_of_event event) (get_or-take place entries k d before) ∙ ne_eqb _ _ (others k d (omega (arith, below, length-take place entries)) (λ e. omega (arith, e, before)))

    back : (k : ℕ) (d : EntryState) → k < length (drop (place + 1) entries) → is_of_event event (slice_index_or (drop (place + 1) entries) k d) ≡ false
    back k d below =
        ap (is_of_event event) (get_or-drop (place + 1) entries k d)
        ∙ ne_eqb _ _ (others (place + 1 + k) d (omega (arith, below, length-drop (place + 1) entries)) (λ e. omega (arith, e)))
