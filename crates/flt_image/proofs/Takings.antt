-- What a part that is read leaves, by what was found of it alone.
use Rattle.std.proofs.Common.{◌≡◌, ℕ, zero, suc, ◌+◌, ◌-◌, ◌<◌, ◌≤◌, min, [], ◌∷◌, ◌++◌, Bool, true, false, ◌&&◌, List, length, refl, sym, ◌∙◌, ap, subst, arith, inl, inr, set, take, drop, length-take, length-drop}
use Rattle.std.specs.Prelude.{slice_index_or, slice_get, slice_range, bytes_eq, Option, Some, None, position, is_none}
use Rattle.std.proofs.lemmas.Bool.{cases_lt, false_from_ne_true, and_from, and_parts, le-leb, leb-true, and_left, and_right}
use Rattle.std.proofs.lemmas.List.{get_or_past, get_or_default, get_or-take, get_or-drop, set_past, take-set, drop-set-lt}
use Rattle.std.proofs.lemmas.List.FromFn.{get_or-map-range_with_len, length-map-range_with_len}
use Rattle.std.proofs.lemmas.Option.{slice_get-get_or, slice_get_past}
use Rattle.flt_config.specs.declared.config.Config.{Config}
use Rattle.flt_config.specs.declared.config.EventCfg.{EventCfg}
use Rattle.flt_config.specs.declared.persist.Persist.{Persist}
use Rattle.flt_config.specs.declared.persist.EventState.{EventState}
use Rattle.flt_config.specs.declared.persist.EntryState.{EntryState}
use Rattle.flt_config.specs.Durable.{AreStatesOf, IsStateOf, IsEntryOf, start_state, is_of_event}
use Rattle.flt_store_model.specs.declared.part.Part.{Part}
use Rattle.flt_store_model.specs.declared.part.Part.TheVariants.{Summary, States, Entry}
use Rattle.flt_store_model.specs.Form.{summary_bytes, state_bytes, first_states, states_bytes, entry_bytes, no_entry_bytes, place_bytes, part_bytes}
use Rattle.flt_store_model.specs.Fit.{state_fits_at, states_fit, entry_fits_at, is_alone, place_fits, summary_fits, part_fits}
use Rattle.flt_store_model.specs.Reading.{state_from, with_states, entry_from, with_summary, with_part, taken}
use Rattle.flt_store_model.proofs.Choices.{all_from}
use Rattle.flt_store_model.proofs.Fitting.{test_of_state, entry_by_test, test_of_entry, noted_by_test, test_of_noted}
use Rattle.flt_store_model.proofs.States.{first_states_more, no_states, with_states_more, state_set, length-with_states}
use Rattle.flt_store_model.proofs.Sizes.{set_here, none_here, refused_by_bytes, refused_by_fit, accepted, taken_holds}
use Rattle.flt_store_model.proofs.Parts.{state_passes}
use Rattle.flt_image.specs.Taking.{TakesIn, block_states, no_state, summed_up, IsSummaryOf}

-- An answer, by what is taken.
pub refuses : {o : Option Persist} (before : Persist) → o ≡ None → TakesIn o false before before
refuses before none = subst (λ (o : Option Persist). TakesIn o false before before) (sym none) (refl, refl)

pub takes : {o : Option Persist} (before after state : Persist) → o ≡ Some state → after ≡ state → TakesIn o true before after
takes before after state some same = subst (λ (o : Option Persist). TakesIn o true before after) (sym some) (refl, same)

-- ---- the states of sixteen events
-- The same states give the same bytes, wherever they are.
moved_states : (xs ys : List EventState) (from first count : ℕ) → ((place : ℕ) → place < count → slice_index_or xs (from + place) start_state ≡ slice_index_or ys (first + place) start_state)
    → first_states xs from count ≡ first_states ys first count
moved_states xs ys from first zero same = no_states xs from ∙ sym (no_states ys first)
moved_states xs ys from first (suc count) same =
    let more : count + 1 ≡ suc count = omega arith in
    subst (λ (n : ℕ). first_states xs from n ≡ first_states ys first n) more
    (first_states_more xs from count
    ∙ ap (λ (bytes : List ℕ). bytes ++ state_bytes (slice_index_or xs (from + count) start_state)) (moved_states xs ys from first count (λ place below. same place (omega (arith, below))))
    ∙ ap (λ (state : EventState). first_states ys first count ++ state_bytes state) (same count (omega arith))
    ∙ sym (first_states_more ys first count))

-- A state of the first ones of a block.
pub block_state_at : (held : List ℕ) (states : List EventState) → states ≡ block_states held (length states) → (place : ℕ) (d : EventState) → place < length states → slice_index_or states place d ≡ state_from held place
block_state_at held states is place d below =
    ap (λ (xs : List EventState). slice_index_or xs place d) is ∙ get_or-map-range_with_len (state_from held) 0 (length states) place place d below (omega arith)

-- The block has these states of the events from the first one on; its places past the last event have none.
module _ (c : Config) (first count : ℕ) (held : List ℕ) (into : Persist) (size : length into.events.items ≡ length c.events.items) (within : first < length c.events.items)
    (count_is : count ≡ min (length c.events.items - first) 16) (read : List EventState) (read_is : read ≡ block_states held count) where
  -- The states that this block leaves.
  abbrev pub after : List EventState
  after = with_states held first 16 into.events.items

  -- The events whose states the block has.
  abbrev pub own : List EventCfg
  own = slice_range c.events.items first (first + count)

  read_size : length read ≡ count
  read_size = ap (λ (xs : List EventState). length xs) read_is ∙ length-map-range_with_len (state_from held) 0 count

  own_size : length own ≡ count
  own_size = length-take (first + count - first) (drop first c.events.items) ∙ omega (arith, length-drop first c.events.items, count_is, within)

  own_here : (place : ℕ) (d : EventCfg) → place < count → slice_index_or own place d ≡ slice_index_or c.events.items (first + place) d
  own_here place d below = get_or-take (first + count - first) (drop first c.events.items) place d (omega (arith, below)) ∙ get_or-drop first c.events.items place d

  together : (place : ℕ) → place < 16 → slice_index_or read place start_state ≡ slice_index_or after (first + place) start_state
  together place small = elim (cases_lt place count) [
    | inl below ↦
        ap (λ (xs : List EventState). slice_index_or xs place start_state) read_is
        ∙ get_or-map-range_with_len (state_from held) 0 count place place start_state below (omega arith)
        ∙ sym (state_set held first into.events.items 16 place start_state small (omega (arith, below, count_is, size)))
    | inr past ↦
        get_or_past read place start_state (omega (arith, read_size, past))
        ∙ sym (get_or_past after (first + place) start_state (omega (arith, length-with_states held first into.events.items 16, size, count_is, past, small)))
  ]

  same_bytes : states_bytes read 0 ≡ states_bytes after first
  same_bytes = moved_states read after 0 first 16 (λ place small. (let none : 0 + place ≡ place = omega arith in ap (λ (n : ℕ). slice_index_or read n start_state) none ∙ together place small))

  -- They fit their events exactly where the block passes.
  read_fits : states_fit c.events.items after first 16 ≡ true → AreStatesOf own read
  read_fits passes = record { one_each = read_size ∙ sym own_size; fitting = fitting }
    where
      fitting : (k : ℕ) (event : EventCfg) (state : EventState) → k < length own → IsStateOf (slice_index_or own k event) (slice_index_or read k state)
      fitting k event state below =
          let low : k < count = omega (arith, below, own_size) in
          let small : k < 16 = omega (arith, low, count_is) in
          let here : slice_index_or after (first + k) start_state ≡ slice_index_or read k state = sym (together k small) ∙ get_or_default read k start_state state (omega (arith, read_size, low)) in
          subst (λ (s : EventState). IsStateOf (slice_index_or own k event) s) here
          (subst (λ (e : EventCfg). IsStateOf e (slice_index_or after (first + k) start_state)) (sym (own_here k event low))
          (state_passes c.events.items after first 16 passes k small event (omega (arith, low, count_is, within))))

  fit_passes : AreStatesOf own read → states_fit c.events.items after first 16 ≡ true
  unfolding states_fit
  fit_passes are =
      all_from (λ place. state_fits_at (slice_get c.events.items (first + place)) (slice_index_or after (first + place) start_state)) 0 16
      (λ k small. subst (λ (n : ℕ). state_fits_at (slice_get c.events.items (first + n)) (slice_index_or after (first + n) start_state) ≡ true) (omega arith) (at k small))
    where
      there : (events : List EventCfg) → events ≡ c.events.items → (k : ℕ) → k < 16 → k < count → first + k < length events → state_fits_at (slice_get events (first + k)) (slice_index_or after (first + k) start_state) ≡ true
      there [] is k small low inside = absurd (omega (arith, inside))
      there (event ∷ rest) is k small low inside =
          let found = slice_get-get_or (event ∷ rest) (first + k) event inside in
          let same : slice_index_or own k event ≡ slice_index_or (event ∷ rest) (first + k) event = own_here k event low ∙ ap (λ (es : List EventCfg). slice_index_or es (first + k) event) (sym is) in
          subst (λ (o : Option EventCfg). state_fits_at o (slice_index_or after (first + k) start_state) ≡ true) (sym found)
          (test_of_state (slice_index_or (event ∷ rest) (first + k) event) (slice_index_or after (first + k) start_state)
          (subst (λ (s : EventState). IsStateOf (slice_index_or (event ∷ rest) (first + k) event) s) (together k small)
          (subst (λ (e : EventCfg). IsStateOf e (slice_index_or read k start_state)) same (are.fitting k event start_state (omega (arith, own_size, low))))))

      at : (k : ℕ) → k < 16 → state_fits_at (slice_get c.events.items (first + k)) (slice_index_or after (first + k) start_state) ≡ true
      at k small = elim (cases_lt k count) [
        | inl low ↦ there c.events.items refl k small low (omega (arith, low, count_is, within))
        | inr past ↦ subst (λ (o : Option EventCfg). state_fits_at o (slice_index_or after (first + k) start_state) ≡ true) (sym (slice_get_past c.events.items (first + k) (omega (arith, past, count_is, small)))) refl
      ]

  pub states_unfit : (AreStatesOf own read → ⊥) → taken c (States first) held into ≡ None
  unfolding with_part
  states_unfit unfit = refused_by_fit c (States first) held (with_part (States first) held into) (false_from_ne_true (states_fit c.events.items after first 16) (λ passes. unfit (read_fits passes)))

  pub states_differ : bytes_eq held (states_bytes read 0) ≡ false → taken c (States first) held into ≡ None
  unfolding with_part
  states_differ differ = refused_by_bytes c (States first) held (with_part (States first) held into) (sym (ap (bytes_eq held) same_bytes) ∙ differ)

  pub states_taken : AreStatesOf own read → bytes_eq held (states_bytes read 0) ≡ true → taken c (States first) held into ≡ Some (record into { events = record { items = after } })
  unfolding with_part
  states_taken are same = accepted c (States first) held (with_part (States first) held into) (sym (ap (bytes_eq held) same_bytes) ∙ same) (fit_passes are)

  -- Past the last event nothing is set.
  none_past : (extra : ℕ) → count + extra ≤ 16 → with_states held first (count + extra) into.events.items ≡ with_states held first count into.events.items
  none_past zero small = (let same : count + 0 ≡ count = omega arith in ap (λ (n : ℕ). with_states held first n into.events.items) same)
  none_past (suc extra) small =
      let next : count + suc extra ≡ count + extra + 1 = omega arith in
      ap (λ (n : ℕ). with_states held first n into.events.items) next
      ∙ with_states_more held first into.events.items (count + extra)
      ∙ set_past (with_states held first (count + extra) into.events.items) (first + (count + extra)) (state_from held (count + extra)) (omega (arith, length-with_states held first into.events.items (count + extra), size, count_is, small))
      ∙ none_past extra (omega (arith, small))

  pub all_set : with_states held first (length read) into.events.items ≡ after
  all_set =
      ap (λ (n : ℕ). with_states held first n into.events.items) read_size
      ∙ sym (none_past (16 - count) (omega (arith, count_is)))
      ∙ (let whole : count + (16 - count) ≡ 16 = omega (arith, count_is) in ap (λ (n : ℕ). with_states held first n into.events.items) whole)

  pub own_read : read ≡ block_states held (length read)
  own_read = read_is ∙ ap (block_states held) (sym read_size)

-- ---- an entry
module _ (c : Config) (place : ℕ) (held : List ℕ) (into : Persist) where
  -- Past the entries.
  none_differs : length into.entries.items ≤ place → bytes_eq held no_entry_bytes ≡ false → taken c (Entry place) held into ≡ None
  unfolding with_part
  none_differs past differ =
      refused_by_bytes c (Entry place) held (with_part (Entry place) held into)
      (ap (λ (o : Option EntryState). bytes_eq held (place_bytes o)) (none_here into.entries.items place (entry_from held) past) ∙ differ)

  none_taken : length into.entries.items ≤ place → bytes_eq held no_entry_bytes ≡ true → taken c (Entry place) held into ≡ Some into
  unfolding with_part
  none_taken past same =
      accepted c (Entry place) held (with_part (Entry place) held into)
      (ap (λ (o : Option EntryState). bytes_eq held (place_bytes o)) (none_here into.entries.items place (entry_from held) past) ∙ same)
      (ap (λ (o : Option EntryState). place_fits c.events.items (set into.entries.items place (entry_from held)) place o) (none_here into.entries.items place (entry_from held) past))
      ∙ ap (λ (es : List EntryState). Some (record into { entries = record { items = es } })) (set_past into.entries.items place (entry_from held) past)

  -- By whether the bytes are those of no entry.
  pub none_answered : (result : Bool) → length into.entries.items ≤ place → result ≡ bytes_eq held no_entry_bytes → TakesIn (taken c (Entry place) held into) result into into
  none_answered true past said = takes into into into (none_taken past (sym said)) refl
  none_answered false past said = refuses into (none_differs past (sym said))

  module _ (within : place < length into.entries.items) (entry : EntryState) (is : entry ≡ entry_from held) where
    bytes_here : part_bytes (with_part (Entry place) held into) (Entry place) ≡ entry_bytes entry
    unfolding with_part
    bytes_here = ap place_bytes (set_here into.entries.items place (entry_from held) within) ∙ ap entry_bytes (sym is)

    alone_here : (event : ℕ) → is_alone (set into.entries.items place (entry_from held)) place event ≡ is_alone into.entries.items place event
    alone_here event =
        let front = take-set into.entries.items place (entry_from held) in
        let back = drop-set-lt (place + 1) into.entries.items place (entry_from held) (omega arith) in
        ap (λ (xs : List EntryState). is_none (position (is_of_event event) xs) && is_none (position (is_of_event event) (drop (place + 1) (set into.entries.items place (entry_from held))))) front
        ∙ ap (λ (xs : List EntryState). is_none (position (is_of_event event) (take place into.entries.items)) && is_none (position (is_of_event event) xs)) back

    fits_here : part_fits c (with_part (Entry place) held into) (Entry place) ≡ (entry_fits_at (slice_get c.events.items entry.event) entry && is_alone into.entries.items place entry.event)
    unfolding with_part
    fits_here =
        ap (λ (o : Option EntryState). place_fits c.events.items (set into.entries.items place (entry_from held)) place o) (set_here into.entries.items place (entry_from held) within)
        ∙ ap (λ (b : Bool). entry_fits_at (slice_get c.events.items (entry_from held).event) (entry_from held) && b) (alone_here (entry_from held).event)
        ∙ ap (λ (e : EntryState). entry_fits_at (slice_get c.events.items e.event) e && is_alone into.entries.items place e.event) (sym is)

    pub entry_differs : bytes_eq held (entry_bytes entry) ≡ false → taken c (Entry place) held into ≡ None
    entry_differs differ = refused_by_bytes c (Entry place) held (with_part (Entry place) held into) (ap (bytes_eq held) bytes_here ∙ differ)

    pub entry_twice : is_alone into.entries.items place entry.event ≡ false → taken c (Entry place) held into ≡ None
    entry_twice other =
        refused_by_fit c (Entry place) held (with_part (Entry place) held into)
        (fits_here ∙ and_right (entry_fits_at (slice_get c.events.items entry.event) entry) (is_alone into.entries.items place entry.event) other)

    pub entry_unfit : (IsEntryOf c.events.items entry → ⊥) → taken c (Entry place) held into ≡ None
    entry_unfit unfit =
        refused_by_fit c (Entry place) held (with_part (Entry place) held into)
        (fits_here ∙ and_left (entry_fits_at (slice_get c.events.items entry.event) entry) (is_alone into.entries.items place entry.event)
        (false_from_ne_true (entry_fits_at (slice_get c.events.items entry.event) entry) (λ passes. unfit (entry_by_test c.events.items entry passes))))

    pub entry_taken : IsEntryOf c.events.items entry → bytes_eq held (entry_bytes entry) ≡ true → is_alone into.entries.items place entry.event ≡ true
        → taken c (Entry place) held into ≡ Some (record into { entries = record { items = set into.entries.items place entry } })
    unfolding with_part
    entry_taken fits same alone =
        accepted c (Entry place) held (with_part (Entry place) held into) (ap (bytes_eq held) bytes_here ∙ same)
        (fits_here ∙ and_from (entry_fits_at (slice_get c.events.items entry.event) entry) (is_alone into.entries.items place entry.event) (test_of_entry c.events.items entry fits) alone)
        ∙ ap (λ (e : EntryState). Some (record into { entries = record { items = set into.entries.items place e } })) (sym is)

-- ---- a summary
summary_by_test : (c : Config) (p : Persist) → summary_fits c p ≡ true → IsSummaryOf c p
summary_by_test c p passes =
    let a = and_parts _ _ passes in
    let b = and_parts _ _ a.0 in
    let d = and_parts _ _ b.0 in
    let e = and_parts _ _ d.0 in
    record {
      room = leb-true _ c.memory e.0;
      first_failed = noted_by_test c.events.items _ e.1;
      first_confirmed = noted_by_test c.events.items _ d.1;
      recent_failed = noted_by_test c.events.items _ b.1;
      recent_confirmed = noted_by_test c.events.items _ a.1;
    }

test_of_summary : (c : Config) (p : Persist) → IsSummaryOf c p → summary_fits c p ≡ true
test_of_summary c p is =
    and_from _ _ (and_from _ _ (and_from _ _ (and_from _ _ (le-leb _ c.memory is.room) (test_of_noted c.events.items _ is.first_failed))
    (test_of_noted c.events.items _ is.first_confirmed)) (test_of_noted c.events.items _ is.recent_failed)) (test_of_noted c.events.items _ is.recent_confirmed)

-- A summary is that of its bytes, whatever state it is read into.
bytes_alike : (held : List ℕ) (p q : Persist) → summary_bytes (with_summary held p) ≡ summary_bytes (with_summary held q)
unfolding with_summary summary_bytes
bytes_alike held p q = refl

fit_alike : (c : Config) (held : List ℕ) (p q : Persist) → summary_fits c (with_summary held p) ≡ summary_fits c (with_summary held q)
unfolding with_summary
fit_alike c held p q = refl

summed_alike : (held : List ℕ) (p q : Persist) → summed_up (with_summary held q) p ≡ with_summary held p
unfolding with_summary
summed_alike held p q = refl

module _ (c : Config) (held : List ℕ) (into read : Persist) (is : read ≡ with_summary held no_state) where
  same_summary : summary_bytes (with_summary held into) ≡ summary_bytes read
  same_summary = bytes_alike held into no_state ∙ ap summary_bytes (sym is)

  same_fit : summary_fits c (with_summary held into) ≡ summary_fits c read
  same_fit = fit_alike c held into no_state ∙ ap (summary_fits c) (sym is)

  pub summary_unfit : (IsSummaryOf c read → ⊥) → taken c Summary held into ≡ None
  unfolding with_part
  summary_unfit unfit =
      refused_by_fit c Summary held (with_part Summary held into) (same_fit ∙ false_from_ne_true (summary_fits c read) (λ passes. unfit (summary_by_test c read passes)))

  pub summary_differs : bytes_eq held (summary_bytes read) ≡ false → taken c Summary held into ≡ None
  unfolding with_part
  summary_differs differ = refused_by_bytes c Summary held (with_part Summary held into) (ap (bytes_eq held) same_summary ∙ differ)

  pub summary_taken : IsSummaryOf c read → bytes_eq held (summary_bytes read) ≡ true → taken c Summary held into ≡ Some (with_summary held into)
  unfolding with_part
  summary_taken fits same = accepted c Summary held (with_part Summary held into) (ap (bytes_eq held) same_summary ∙ same) (same_fit ∙ test_of_summary c read fits)

  pub all_summed : summed_up read into ≡ with_summary held into
  all_summed = ap (λ (p : Persist). summed_up p into) is ∙ summed_alike held into no_state

-- ---- what is taken leaves one state for each event
kept_count : (part : Part) (held : List ℕ) (p : Persist) → length (with_part part held p).events.items ≡ length p.events.items
unfolding with_part with_summary
kept_count Summary held p = refl
kept_count (States first) held p = length-with_states held first p.events.items 16
kept_count (Entry place) held p = refl

pub states_kept : (c : Config) (part : Part) (held : List ℕ) (p q : Persist) (result : Bool) → TakesIn (taken c part held p) result p q → length q.events.items ≡ length p.events.items
states_kept c part held p q result leaves = by (taken c part held p) refl leaves
  where
    by : (o : Option Persist) → taken c part held p ≡ o → TakesIn o result p q → length q.events.items ≡ length p.events.items
    by None is leaves = ap (λ (s : Persist). length s.events.items) leaves.1
    by (Some state) is leaves =
        ap (λ (s : Persist). length s.events.items) (leaves.1 ∙ sym (taken_holds c part held (with_part part held p) state is).0) ∙ kept_count part held p
