-- The blocks of a state that fits are read as that state.
use Rattle.std.proofs.Common.{◌≡◌, ℕ, zero, suc, ◌+◌, ◌-◌, ◌*◌, ◌<◌, ◌≤◌, true, false, List, length, refl, sym, ◌∙◌, ap, subst, arith, ◌⊎◌, ⊎_elim, inl, inr, min, set, take, drop, position, replicate, length-set, length-take, length-drop, ◌&&◌}
use Rattle.std.specs.Prelude.{slice_index_or, slice_get, is_none, Option, Some, None, Result, Ok, nat_le}
use Rattle.std.proofs.lemmas.Bool.{cases_lt, cases_eq, cases_Bool, and_from, lt-ltb, ne_eqb, and_parts}
use Rattle.std.proofs.lemmas.List.{get_or-set_same, get_or-set_other, get_or_default, get_or_past, get_or-take, get_or-drop, set_past, length-replicate, get_or-replicate, same_lists}
use Rattle.std.proofs.lemmas.Option.{slice_get_cases}
use Rattle.std.proofs.lemmas.Slice.Eq.{bytes_eq-Decides}
use Rattle.flt_flash.specs.Content.{Content}
use Rattle.flt_config.specs.declared.config.Config.{Config}
use Rattle.flt_config.specs.declared.persist.Persist.{Persist}
use Rattle.flt_config.specs.declared.persist.EventState.{EventState}
use Rattle.flt_config.specs.declared.persist.EntryState.{EntryState}
use Rattle.flt_config.specs.Durable.{Fits, IsEntryOf, initial_state, is_of_event, start_state}
use Rattle.flt_store_model.specs.declared.commit.Commit.{Commit}
use Rattle.flt_store_model.specs.declared.part.Part.{Part}
use Rattle.flt_store_model.specs.declared.part.Part.TheVariants.{Summary, States, Entry}
use Rattle.flt_store_model.specs.Layout.{number_of, part_of_block, has_part, is_used, index_in, parts, end_part, later_states_id, first_later_event, states_per_block}
use Rattle.flt_store_model.specs.Form.{summary_bytes, states_bytes, entry_bytes, place_bytes, part_bytes, parts_1}
use Rattle.flt_store_model.specs.Fit.{is_alone, place_fits, summary_fits, states_fit, entry_fits_at, note_fits, part_fits}
use Rattle.flt_store_model.specs.Reading.{with_part, with_summary, entry_from, with_states, untaken_entry, taken, if_holds}
use Rattle.flt_store_model.specs.Holding.{Fault, ◌>>=◌, or_damaged, with_content, with_named, parts_read, BlocksHold}
use Rattle.flt_store_model.proofs.Choices.{chosen, not_chosen}
use Rattle.flt_store_model.proofs.Fitting.{entry_by_test, none_passes}
use Rattle.flt_store_model.proofs.States.{state_set, state_kept, length-with_states, same_states, pass_together}
use Rattle.flt_store_model.proofs.Sizes.{accepted, set_here, none_here}
use Rattle.flt_store_model.proofs.Parts.{part_of_fitting}
use Rattle.flt_store_model.proofs.Decoding.{summary_of, summary_read, state_read, entry_read}
use Rattle.flt_store_model.proofs.Steps.{is_summary, are_states, is_entry, are_later, kind_of}
use Rattle.flt_store_model.proofs.Sofar.{used_from, room_of, none_from, before_states}
use Rattle.flt_config.proofs.DistinctLemmas.{position-None}
use Rattle.flt_store_model.specs.Faults.{HoldBelow}
use Rattle.flt_store_model.proofs.Short.{HasSizes, entry_sizes, short_summary, clean_short}
use Rattle.flt_config.specs.declared.TheConstants.{EVENTS}

-- The events whose states this many first blocks hold: none in the summary and the entries.
abbrev pub states_before : ℕ → ℕ
states_before count = 16 * (min (count - 1) 4 + (count - parts_1))

none_before_first : states_before 0 ≡ 0
none_before_first = refl

none_by_summary : states_before 1 ≡ 0
none_by_summary = refl

first_states_before : (count : ℕ) → 0 < count → count < 6 → states_before count ≡ 16 * (count - 1)
first_states_before count some few = omega (arith, some, few)

later_states_before : (count : ℕ) → parts_1 ≤ count → states_before count ≡ first_later_event + states_per_block * (count - parts_1)
later_states_before count later = omega (arith, later)

one_first : (count : ℕ) → 0 < count → count < 5 → states_before (count + 1) ≡ states_before count + 16
one_first count some few = omega (arith, some, few)

one_later : (count : ℕ) → parts_1 ≤ count → states_before (count + 1) ≡ states_before count + 16
one_later count later = omega (arith, later)

none_by_entry : (count : ℕ) → 5 ≤ count → count < parts_1 → states_before (count + 1) ≡ states_before count
none_by_entry count some few = omega (arith, some, few)

-- The parts that were read so far are those of a state, and the others are still those of none.
pub record Agrees (count : ℕ) (q p : Persist) : Type 0 where
  pub summary_same : 0 < count → (q.overflow ≡ p.overflow) × (q.first_failed ≡ p.first_failed) × (q.first_confirmed ≡ p.first_confirmed) × (q.recent_failed ≡ p.recent_failed) × (q.recent_confirmed ≡ p.recent_confirmed)
  pub entries_count : 0 < count → length q.entries.items ≡ length p.entries.items
  pub states_count : length q.events.items ≡ length p.events.items
  pub states_same : (k : ℕ) (d : EventState) → k < states_before count → k < length p.events.items → slice_index_or q.events.items k d ≡ slice_index_or p.events.items k d
  pub entries_same : (k : ℕ) (d : EntryState) → k + 5 < count → k < length p.entries.items → slice_index_or q.entries.items k d ≡ slice_index_or p.entries.items k d
  pub untaken : (k : ℕ) (d : EntryState) → 0 < count → count ≤ k + 5 → k < length p.entries.items → slice_index_or q.entries.items k d ≡ untaken_entry

module _ (c : Config) (sizes : HasSizes c) (p : Persist) (one_each : length p.events.items ≡ length c.events.items) where
  few_states : length p.events.items ≤ EVENTS
  few_states = omega (arith, one_each, sizes.events)

  -- ---- the summary
  bytes_of_summary_of : (q : Persist) → summary_bytes (summary_of p q) ≡ summary_bytes p
  unfolding summary_bytes
  bytes_of_summary_of q = ap (set (summary_bytes p) 2) (length-replicate (length p.entries.items) untaken_entry)

  summary_given : (q : Persist) → summary_fits c p ≡ true → taken c Summary (summary_bytes p) q ≡ Some (summary_of p q)
  unfolding with_part
  summary_given q fits =
      let read : with_summary (summary_bytes p) q ≡ summary_of p q = summary_read p q (short_summary c sizes p fits) in
      subst (λ (r : Persist). if_holds c Summary (summary_bytes p) r ≡ Some (summary_of p q)) (sym read)
      (accepted c Summary (summary_bytes p) (summary_of p q) ((bytes_eq-Decides (summary_bytes p) (summary_bytes (summary_of p q))).1 same) passes)
    where
      count : length (replicate (length p.entries.items) untaken_entry) ≡ length p.entries.items
      count = length-replicate (length p.entries.items) untaken_entry

      same : summary_bytes p ≡ summary_bytes (summary_of p q)
      same = sym (bytes_of_summary_of q)

      passes : summary_fits c (summary_of p q) ≡ true
      passes =
          ap (λ (n : ℕ). nat_le n c.memory && note_fits c.events.items p.first_failed && note_fits c.events.items p.first_confirmed && note_fits c.events.items p.recent_failed && note_fits c.events.items p.recent_confirmed) count
          ∙ fits

  summary_agrees : (q : Persist) → Agrees 0 q p → Agrees 1 (summary_of p q) p
  summary_agrees q agrees = record {
    summary_same = λ _. (refl, refl, refl, refl, refl);
    entries_count = λ _. length-replicate (length p.entries.items) untaken_entry;
    states_count = agrees.states_count;
    states_same = λ k d low within. absurd (omega (arith, low, none_by_summary));
    entries_same = λ k d low within. absurd (omega (arith, low));
    untaken = λ k d some high within. get_or-replicate (length p.entries.items) k untaken_entry d within;
  }

  -- ---- the states of sixteen events
  module _ (q : Persist) (first : ℕ) (size : length q.events.items ≡ length p.events.items) (fits : states_fit c.events.items p.events.items first 16 ≡ true) where
    abbrev own : List ℕ
    own = states_bytes p.events.items first

    abbrev after : List EventState
    after = with_states (states_bytes p.events.items first) first 16 q.events.items

    block_same : (place : ℕ) → place < 16 → slice_index_or after (first + place) start_state ≡ slice_index_or p.events.items (first + place) start_state
    block_same place below = elim (cases_lt (first + place) (length p.events.items)) [
      | inl within ↦
          state_set own first q.events.items 16 place start_state below (omega (arith, size, within))
          ∙ state_read p.events.items first 16 place below (clean_short c p.events.items first fits place below (omega (arith, within, one_each)))
      | inr past ↦
          get_or_past after (first + place) start_state (omega (arith, length-with_states own first q.events.items 16, size, past))
          ∙ sym (get_or_past p.events.items (first + place) start_state past)
    ]

    pub states_given : taken c (States first) own q ≡ Some (record q { events = record { items = after } })
    unfolding with_part
    states_given =
        accepted c (States first) own (with_part (States first) own q)
        ((bytes_eq-Decides own (states_bytes after first)).1 (same_states p.events.items after first 16 (λ place below. sym (block_same place below))))
        (pass_together c.events.items p.events.items after first 16 (λ place below. sym (block_same place below)) fits)

    pub states_agree : (count : ℕ) → first ≡ states_before count → 0 < count → (count < 5) ⊎ ((parts_1 ≤ count) × (length p.entries.items ≤ 16)) → Agrees count q p → Agrees (count + 1) (record q { events = record { items = after } }) p
    states_agree count at some apart agrees = record {
      summary_same = λ _. agrees.summary_same some;
      entries_count = λ _. agrees.entries_count some;
      states_count = length-with_states own first q.events.items 16 ∙ size;
      states_same = λ k d low within. elim (cases_lt k first) [
        | inl before ↦ state_kept own first q.events.items 16 k d (inl before) ∙ agrees.states_same k d (subst (λ (n : ℕ). k < n) at before) within
        | inr from ↦
            let place : first + (k - first) ≡ k = omega (arith, from) in
            let in_after : k < length after = omega (arith, length-with_states own first q.events.items 16, size, within) in
            get_or_default after k d start_state in_after
            ∙ subst (λ (n : ℕ). slice_index_or after n start_state ≡ slice_index_or p.events.items n start_state) place (block_same (k - first) (omega (arith, low, more_states, at, from)))
            ∙ get_or_default p.events.items k start_state d within
      ];
      entries_same = λ k d low within. agrees.entries_same k d (before_states count k _ apart low within) within;
      untaken = λ k d _ from within. agrees.untaken k d some (omega (arith, from)) within;
    }
      where
        more_states : states_before (count + 1) ≡ states_before count + 16
        more_states = ⊎_elim (λ first_ones. one_first count some first_ones) (λ later. one_later count later.0) apart

  -- ---- an entry
  module _ (q : Persist) (count place : ℕ) (at : place + 5 ≡ count) (few : place < 16) (agrees : Agrees count q p) where
    -- An entry is no block of states.
    by_entry_states : (k : ℕ) → k < states_before (count + 1) → k < states_before count
    by_entry_states k low = let same = none_by_entry count (omega (arith, at)) (omega (arith, at, few)) in omega (arith, same, low)

    same_count : length q.entries.items ≡ length p.entries.items
    same_count = agrees.entries_count (omega (arith, at))

    module _ (entry : EntryState) (within : place < length p.entries.items) (here : slice_index_or p.entries.items place entry ≡ entry)
        (fits : (entry_fits_at (slice_get c.events.items entry.event) entry && is_alone p.entries.items place entry.event) ≡ true) where
      is : IsEntryOf c.events.items entry
      is = entry_by_test c.events.items entry (and_parts (entry_fits_at (slice_get c.events.items entry.event) entry) (is_alone p.entries.items place entry.event) fits).0

      none_before : position (is_of_event entry.event) (take place p.entries.items) ≡ None
      none_before =
          none_from (position (is_of_event entry.event) (take place p.entries.items))
          (and_parts (is_none (position (is_of_event entry.event) (take place p.entries.items))) (is_none (position (is_of_event entry.event) (drop (place + 1) p.entries.items)))
          (and_parts (entry_fits_at (slice_get c.events.items entry.event) entry) (is_alone p.entries.items place entry.event) fits).1).0

      read : entry_from (entry_bytes entry) ≡ entry
      read = let sized = entry_sizes c sizes entry is in entry_read entry (omega (arith, is.event, sizes.events)) sized.0 sized.1

      abbrev after_entry : List EntryState
      after_entry = set q.entries.items place (entry_from (entry_bytes entry))

      found : slice_get after_entry place ≡ Some entry
      found = set_here q.entries.items place (entry_from (entry_bytes entry)) (omega (arith, same_count, within)) ∙ ap Some read

      front : (k : ℕ) (d : EntryState) → k < length (take place after_entry) → is_of_event entry.event (slice_index_or (take place after_entry) k d) ≡ false
      front k d below =
          let size : k < place = omega (arith, below, length-take place after_entry) in
          let known : slice_index_or (take place after_entry) k d ≡ slice_index_or p.entries.items k d =
          get_or-take place after_entry k d size ∙ get_or-set_other q.entries.items place k (entry_from (entry_bytes entry)) d (λ e. omega (arith, e, size))
          ∙ agrees.entries_same k d (omega (arith, size, at)) (omega (arith, size, within)) in
          ap (is_of_event entry.event) (known ∙ sym (get_or-take place p.entries.items k d size))
          ∙ position-None (is_of_event entry.event) (take place p.entries.items) k d none_before (omega (arith, size, within, length-take place p.entries.items))

      back : (k : ℕ) (d : EntryState) → k < length (drop (place + 1) after_entry) → is_of_event entry.event (slice_index_or (drop (place + 1) after_entry) k d) ≡ false
      back k d below =
          let size : place + 1 + k < length p.entries.items = omega (arith, below, length-drop (place + 1) after_entry, length-set q.entries.items place (entry_from (entry_bytes entry)), same_count) in
          let known : slice_index_or (drop (place + 1) after_entry) k d ≡ untaken_entry =
          get_or-drop (place + 1) after_entry k d ∙ get_or-set_other q.entries.items place (place + 1 + k) (entry_from (entry_bytes entry)) d (λ e. omega (arith, e))
          ∙ agrees.untaken (place + 1 + k) d (omega (arith, at)) (omega (arith, at)) size in
          ap (is_of_event entry.event) known ∙ ne_eqb _ _ (λ equal. omega (arith, equal, is.event, sizes.events))

      alone : is_alone after_entry place entry.event ≡ true
      alone =
          and_from _ _ (ap is_none (none_passes (is_of_event entry.event) (take place after_entry) front))
          (ap is_none (none_passes (is_of_event entry.event) (drop (place + 1) after_entry) back))

      pub entry_given : taken c (Entry place) (entry_bytes entry) q ≡ Some (record q { entries = record { items = after_entry } })
      unfolding with_part
      entry_given =
          accepted c (Entry place) (entry_bytes entry) (with_part (Entry place) (entry_bytes entry) q)
          ((bytes_eq-Decides (entry_bytes entry) (place_bytes (slice_get after_entry place))).1 (sym (ap place_bytes found)))
          (subst (λ (o : Option EntryState). place_fits c.events.items after_entry place o ≡ true) (sym found)
          (and_from _ _ (and_parts (entry_fits_at (slice_get c.events.items entry.event) entry) (is_alone p.entries.items place entry.event) fits).0 alone))

      pub entry_agrees : Agrees (count + 1) (record q { entries = record { items = after_entry } }) p
      entry_agrees = record {
        summary_same = λ _. agrees.summary_same (omega (arith, at));
        entries_count = λ _. length-set q.entries.items place (entry_from (entry_bytes entry)) ∙ same_count;
        states_count = agrees.states_count;
        states_same = λ k d low inside. agrees.states_same k d (by_entry_states k low) inside;
        entries_same = λ k d low inside. elim (cases_eq k place) [
          | inl same ↦
              ap (λ (n : ℕ). slice_index_or after_entry n d) same
              ∙ get_or-set_same q.entries.items place (entry_from (entry_bytes entry)) d (omega (arith, same_count, within))
              ∙ read ∙ sym here ∙ get_or_default p.entries.items place entry d within ∙ ap (λ (n : ℕ). slice_index_or p.entries.items n d) (sym same)
          | inr other ↦ get_or-set_other q.entries.items place k (entry_from (entry_bytes entry)) d other ∙ agrees.entries_same k d (omega (arith, low, other, at)) inside
        ];
        untaken = λ k d some from inside. get_or-set_other q.entries.items place k (entry_from (entry_bytes entry)) d (λ e. omega (arith, e, from, at)) ∙ agrees.untaken k d (omega (arith, at)) (omega (arith, from)) inside;
      }

    -- There is no entry at the place.
    module _ (past : length p.entries.items ≤ place) where
      past_q : length q.entries.items ≤ place
      past_q = omega (arith, same_count, past)

      pub none_given : (held : List ℕ) → held ≡ place_bytes None → taken c (Entry place) held q ≡ Some q
      unfolding with_part
      none_given held is =
          let stays = set_past q.entries.items place (entry_from held) past_q in
          let none : slice_get (set q.entries.items place (entry_from held)) place ≡ None = none_here q.entries.items place (entry_from held) past_q in
          accepted c (Entry place) held (with_part (Entry place) held q)
          ((bytes_eq-Decides held (place_bytes (slice_get (set q.entries.items place (entry_from held)) place))).1 (is ∙ sym (ap place_bytes none)))
          (ap (λ (o : Option EntryState). place_fits c.events.items (set q.entries.items place (entry_from held)) place o) none)
          ∙ ap (λ (es : List EntryState). Some (record q { entries = record { items = es } })) stays

      pub none_agrees : Agrees (count + 1) q p
      none_agrees = record {
        summary_same = λ _. agrees.summary_same (omega (arith, at));
        entries_count = λ _. same_count;
        states_count = agrees.states_count;
        states_same = λ k d low inside. agrees.states_same k d (by_entry_states k low) inside;
        entries_same = λ k d low inside. agrees.entries_same k d (omega (arith, inside, past, at)) inside;
        untaken = λ k d some from inside. absurd (omega (arith, inside, past, from, at));
      }

  -- ---- a block that is not used
  pub unused_agrees : (count : ℕ) (q : Persist) → count < parts → is_used c (3 + count) ≡ false → (0 < count → length p.entries.items ≤ c.memory) → Agrees count q p → Agrees (count + 1) q p
  unused_agrees count q below unused room agrees = elim (kind_of (3 + count) (omega arith)) [
    | is_summary at of ↦ absurd (let here : count ≡ 0 = omega (arith, at) in let no = subst (λ (n : ℕ). is_used c (3 + n) ≡ false) here unused in cc)
    | are_states low high of ↦
        let last : length c.events.items ≤ 16 * (3 + count - 4) = elim (cases_lt (16 * (3 + count - 4)) (length c.events.items)) [
          | inl within ↦ absurd (
              let has : has_part c (part_of_block (3 + count)) ≡ true = subst (λ (x : Part). has_part c x ≡ true) (sym of) (lt-ltb (16 * (3 + count - 4)) (length c.events.items) within) in
              let yes = used_from c (3 + count) (omega arith) (omega (arith, below)) has in cc)
          | inr past ↦ past
        ] in
        record {
          summary_same = λ _. agrees.summary_same (omega (arith, low));
          entries_count = λ _. agrees.entries_count (omega (arith, low));
          states_count = agrees.states_count;
          states_same = λ k d _ inside. agrees.states_same k d (let count_is = first_states_before count (omega (arith, low)) (omega (arith, high)) in omega (arith, inside, one_each, last, low, count_is)) inside;
          entries_same = λ k d before inside. absurd (omega (arith, before, high));
          untaken = λ k d some from inside. agrees.untaken k d (omega (arith, low)) (omega (arith, from)) inside;
        }
    | are_later low of ↦
        let last : length c.events.items ≤ first_later_event + states_per_block * (3 + count - later_states_id) = elim (cases_lt (first_later_event + states_per_block * (3 + count - later_states_id)) (length c.events.items)) [
          | inl within ↦ absurd (
              let has : has_part c (part_of_block (3 + count)) ≡ true = subst (λ (x : Part). has_part c x ≡ true) (sym of) (lt-ltb (first_later_event + states_per_block * (3 + count - later_states_id)) (length c.events.items) within) in
              let yes = used_from c (3 + count) (omega arith) (omega (arith, below)) has in cc)
          | inr past ↦ past
        ] in
        record {
          summary_same = λ _. agrees.summary_same (omega (arith, low));
          entries_count = λ _. agrees.entries_count (omega (arith, low));
          states_count = agrees.states_count;
          states_same = λ k d _ inside. agrees.states_same k d (let count_is = later_states_before count (omega (arith, low)) in omega (arith, inside, one_each, last, low, count_is)) inside;
          entries_same = λ k d before inside. agrees.entries_same k d (let most = room (omega (arith, low)) in omega (arith, low, inside, most, sizes.memory)) inside;
          untaken = λ k d some from inside. agrees.untaken k d (omega (arith, low)) (omega (arith, from)) inside;
        }
    | is_entry low high of ↦
        let last : c.memory ≤ 3 + count - 8 = elim (cases_lt (3 + count - 8) c.memory) [
          | inl within ↦ absurd (
              let has : has_part c (part_of_block (3 + count)) ≡ true = subst (λ (x : Part). has_part c x ≡ true) (sym of) (lt-ltb (3 + count - 8) c.memory within) in
              let yes = used_from c (3 + count) (omega arith) (omega (arith, below)) has in cc)
          | inr past ↦ past
        ] in
        record {
          summary_same = λ _. agrees.summary_same (omega (arith, low));
          entries_count = λ _. agrees.entries_count (omega (arith, low));
          states_count = agrees.states_count;
          states_same = λ k d before inside. agrees.states_same k d (let same = none_by_entry count (omega (arith, low)) (omega (arith, high)) in omega (arith, same, before)) inside;
          entries_same = λ k d before inside. agrees.entries_same k d (omega (arith, inside, room (omega (arith, low)), last, low)) inside;
          untaken = λ k d some from inside. agrees.untaken k d (omega (arith, low)) (omega (arith, from)) inside;
        }
  ]

  -- ---- a block that holds its bytes of the state
  pub block_given : (count : ℕ) (q : Persist) → count < parts → (0 < count → length p.entries.items ≤ 16) → part_fits c p (part_of_block (3 + count)) ≡ true → Agrees count q p
      → (r : Persist) × (taken c (part_of_block (3 + count)) (part_bytes p (part_of_block (3 + count))) q ≡ Some r) × Agrees (count + 1) r p
  block_given count q below short fits agrees = elim (kind_of (3 + count) (omega arith)) [
    | is_summary at of ↦
        let here : count ≡ 0 = omega (arith, at) in (
          summary_of p q,
          of_part Summary (summary_of p q) of (summary_given q (fits_of Summary of)),
          subst (λ (n : ℕ). Agrees (n + 1) (summary_of p q) p) (sym here) (summary_agrees q (subst (λ (n : ℕ). Agrees n q p) here agrees)),
        )
    | are_states low high of ↦
        let first = 16 * (3 + count - 4) in
        let r = record q { events = record { items = with_states (states_bytes p.events.items first) first 16 q.events.items } } in (
          r,
          of_part (States first) r of (states_given q first agrees.states_count (fits_of (States first) of)),
          states_agree q first agrees.states_count (fits_of (States first) of) count (let count_is = first_states_before count (omega (arith, low)) (omega (arith, high)) in omega (arith, low, count_is)) (omega (arith, low)) (inl (omega (arith, high))) agrees,
        )
    | are_later low of ↦
        let first = first_later_event + states_per_block * (3 + count - later_states_id) in
        let r = record q { events = record { items = with_states (states_bytes p.events.items first) first 16 q.events.items } } in (
          r,
          of_part (States first) r of (states_given q first agrees.states_count (fits_of (States first) of)),
          states_agree q first agrees.states_count (fits_of (States first) of) count (let count_is = later_states_before count (omega (arith, low)) in omega (arith, low, count_is)) (omega (arith, low))
              (inr (omega (arith, low), short (omega (arith, low)))) agrees,
        )
    | is_entry low high of ↦
        let place = 3 + count - 8 in
        let at : place + 5 ≡ count = omega (arith, low) in
        elim (slice_get_cases p.entries.items place).1 [
          | inl found ↦
              let r = record q { entries = record { items = set q.entries.items place (entry_from (entry_bytes found.0)) } } in (
                r,
                of_part (Entry place) r of
                    (subst (λ (o : Option EntryState). taken c (Entry place) (place_bytes o) q ≡ Some r) (sym found.2) (entry_given q count place at (omega (arith, high, low)) agrees found.0 found.1 found.3 (entry_fit place found.0 found.2 of))),
                entry_agrees q count place at (omega (arith, high, low)) agrees found.0 found.1 found.3 (entry_fit place found.0 found.2 of),
              )
          | inr past ↦ (
            q,
            of_part (Entry place) q of (none_given q count place at (omega (arith, high, low)) agrees past.0 (place_bytes (slice_get p.entries.items place)) (ap place_bytes past.1)),
            none_agrees q count place at (omega (arith, high, low)) agrees past.0,
          )
        ]
  ]
    where
      of_part : (part : Part) (r : Persist) → part_of_block (3 + count) ≡ part → taken c part (part_bytes p part) q ≡ Some r → taken c (part_of_block (3 + count)) (part_bytes p (part_of_block (3 + count))) q ≡ Some r
      of_part part r of is = subst (λ (x : Part). taken c x (part_bytes p x) q ≡ Some r) (sym of) is

      fits_of : (part : Part) → part_of_block (3 + count) ≡ part → part_fits c p part ≡ true
      fits_of part of = subst (λ (x : Part). part_fits c p x ≡ true) of fits

      entry_fit : (place : ℕ) (entry : EntryState) → slice_get p.entries.items place ≡ Some entry → part_of_block (3 + count) ≡ Entry place
          → (entry_fits_at (slice_get c.events.items entry.event) entry && is_alone p.entries.items place entry.event) ≡ true
      entry_fit place entry found of = subst (λ (o : Option EntryState). place_fits c.events.items p.entries.items place o ≡ true) found (fits_of (Entry place) of)

  module _ (value : ℕ → Content) (commit : Commit) (bound : ℕ) (most : bound ≤ end_part) (stands : HoldBelow c value commit bound p) where
    -- The entries have room, once the summary was read.
    room : 3 < bound → length p.entries.items ≤ c.memory
    room some = room_of c p (stands.fits 3 refl some)

    one_given : (count : ℕ) (q : Persist) → 3 + count < bound → Agrees count q p → (r : Persist) × (with_named c value commit (3 + count) q ≡ Ok r) × Agrees (count + 1) r p
    one_given count q below agrees = elim (cases_Bool (is_used c (3 + count))) [
      | inl used ↦
          let given = block_given count q (omega (arith, below, most)) (λ some. (let few = room (omega (arith, some, below)) in omega (arith, few, sizes.memory))) (stands.fits (3 + count) used below) agrees in
          let id = 3 + count in (
            given.0,
            chosen (is_used c id) (with_content c id (value (number_of id (index_in commit id))) q) (Ok q) used
                ∙ ap (λ (content : Content). with_content c id content q) (stands.blocks id used below)
                ∙ ap (or_damaged id) given.1,
            given.2,
          )
      | inr unused ↦ (
        q,
        not_chosen (is_used c (3 + count)) (with_content c (3 + count) (value (number_of (3 + count) (index_in commit (3 + count)))) q) (Ok q) unused,
        unused_agrees count q (omega (arith, below, most)) unused (λ some. room (omega (arith, some, below))) agrees,
      )
    ]

    start_agrees : Agrees 0 (initial_state c) p
    start_agrees = record {
      summary_same = λ some. absurd (omega (arith, some));
      entries_count = λ some. absurd (omega (arith, some));
      states_count = length-replicate (length c.events.items) start_state ∙ sym one_each;
      states_same = λ k d low within. absurd (omega (arith, low, none_before_first));
      entries_same = λ k d low within. absurd (omega (arith, low));
      untaken = λ k d some from within. absurd (omega (arith, some));
    }

    pub blocks_read : (count : ℕ) → 3 + count ≤ bound → (q : Persist) × (parts_read c value commit count ≡ Ok q) × Agrees count q p
    unfolding parts_read
    blocks_read zero within = (initial_state c, refl, start_agrees)
    blocks_read (suc count) within =
        let before = blocks_read count (omega (arith, within)) in
        let given = one_given count before.0 (omega (arith, within)) before.2 in
        let more : count + 1 ≡ suc count = omega arith in
        (given.0, ap (λ (r : Result Persist Fault). r >>= with_named c value commit (3 + count)) before.1 ∙ given.1, subst (λ (n : ℕ). Agrees n given.0 p) more given.2)

  -- A state whose parts were all read.
  all_agree : (q : Persist) → length p.entries.items ≤ c.memory → Agrees parts q p → q ≡ p
  all_agree q room agrees =
      let s = agrees.summary_same (omega arith) in
      let events = same_lists q.events.items p.events.items agrees.states_count (λ k d below.
      agrees.states_same k d (all_before k (omega (arith, below, agrees.states_count, few_states))) (omega (arith, below, agrees.states_count))) in
      let count = agrees.entries_count (omega arith) in
      let entries = same_lists q.entries.items p.entries.items count (λ k d below.
      agrees.entries_same k d (omega (arith, below, count, room, sizes.memory)) (omega (arith, below, count))) in
      λ i. record {
        events = record { items = events i };
        entries = record { items = entries i };
        overflow = s.0 i;
        first_failed = s.1 i;
        first_confirmed = s.2 i;
        recent_failed = s.3 i;
        recent_confirmed = s.4 i;
      }
    where
      all_before : (k : ℕ) → k < EVENTS → k < states_before parts
      all_before k below = below

-- The blocks of a state that fits are read as that state.
pub whole_read : (c : Config) → HasSizes c → (value : ℕ → Content) (commit : Commit) (p : Persist) → Fits c p → BlocksHold c value commit p → parts_read c value commit parts ≡ Ok p
whole_read c sizes value commit p fits blocks =
    let stands : HoldBelow c value commit end_part p = record {
      one_each = fits.states.one_each;
      blocks = λ id used below. blocks id used;
      fits = λ id used below. part_of_fitting c p fits (part_of_block id);
    } in
    let whole = blocks_read c sizes p fits.states.one_each value commit end_part (omega arith) stands parts (omega arith) in
    whole.1 ∙ ap Ok (all_agree c sizes p fits.states.one_each whole.0 fits.room whole.2)
