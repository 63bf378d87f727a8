-- What the blocks that were read so far say of the state that they gave.
use Rattle.std.proofs.Common.{◌≡◌, ◌⊎◌, ⊎_elim, ℕ, zero, suc, ◌+◌, ◌-◌, ◌*◌, ◌<◌, ◌≤◌, ◌==◌, ◌&&◌, true, false, List, length, refl, sym, ◌∙◌, ap, subst, arith, inl, inr, set, take, drop, position, length-set, length-take, min}
use Rattle.std.specs.Prelude.{slice_index_or, slice_get, nat_lt, nat_le, is_none, Option, Some, None, Ok, IsTrue, slice_index}
use Rattle.std.proofs.lemmas.Bool.{cases_lt, cases_eq, cases_Bool, and_parts, and_from, leb-true, le-leb, lt-ltb, ltb-true, eqb-false}
use Rattle.std.proofs.lemmas.List.{get_or-set_same, get_or-set_other, get_or-take, length-replicate, get_or-replicate}
use Rattle.flt_flash.specs.Content.{Content, bytes}
use Rattle.flt_config.specs.declared.config.Config.{Config}
use Rattle.flt_config.specs.declared.persist.Persist.{Persist}
use Rattle.flt_config.specs.declared.persist.EntryState.{EntryState}
use Rattle.flt_config.proofs.InitialFits.{initial_states}
use Rattle.flt_config.specs.Durable.{Fits, AreStatesOf, IsEntryOf, IsOfOtherEvent, initial_state, is_of_event}
use Rattle.flt_config.proofs.DistinctLemmas.{position-None}
use Rattle.flt_store_model.specs.declared.commit.Commit.{Commit}
use Rattle.flt_store_model.specs.declared.part.Part.{Part}
use Rattle.flt_store_model.specs.declared.part.Part.TheVariants.{Summary, States, Entry}
use Rattle.flt_store_model.specs.Layout.{number_of, part_of_block, has_part, is_used, index_in, parts, end_part, later_states_id, first_later_event, states_per_block}
use Rattle.flt_store_model.specs.Form.{part_bytes, parts_1}
use Rattle.flt_store_model.specs.Fit.{states_fit, entry_fits_at, is_alone, place_fits, note_fits, summary_fits, part_fits}
use Rattle.flt_store_model.specs.Reading.{with_part, with_summary, entry_from, with_states, taken, untaken_entry}
use Rattle.flt_store_model.specs.Holding.{with_named, parts_read, BlocksHold}
use Rattle.flt_store_model.proofs.Fitting.{entry_by_test, noted_by_test}
use Rattle.flt_store_model.proofs.Parts.{set_states_fit}
use Rattle.flt_store_model.proofs.Sizes.{taken_holds, set_here}
use Rattle.flt_store_model.proofs.Steps.{gave, both_ok, is_summary, are_states, is_entry, are_later, kind_of, bytes_kept}

-- A used block, by its part.
pub used_from : (c : Config) (id : ℕ) → 3 ≤ id → id < end_part → has_part c (part_of_block id) ≡ true → IsTrue (is_used c id)
used_from c id low high has = and_from _ _ (and_from _ _ (le-leb 3 id low) (lt-ltb id end_part high)) has

pub none_from : (o : Option ℕ) → is_none o ≡ true → o ≡ None
none_from None is = refl
none_from (Some k) is = absurd (cc)

-- What is known after this many first blocks.
pub record Sofar (c : Config) (value : ℕ → Content) (commit : Commit) (count : ℕ) (p : Persist) : Type 0 where
  pub contents : (id : ℕ) → 3 ≤ id → id < 3 + count → IsTrue (is_used c id) → value (number_of id (index_in commit id)) ≡ bytes (part_bytes p (part_of_block id))
  pub states_are : AreStatesOf c.events.items p.events.items
  pub summary_is : 0 < count → summary_fits c p ≡ true
  pub few : length p.entries.items ≤ 16
  pub entries_are : (k : ℕ) (d : EntryState) → k + 5 < count → k < length p.entries.items → IsEntryOf c.events.items (slice_index_or p.entries.items k d)
  pub distinct : (i j : ℕ) (d : EntryState) → i < j → j + 5 < count → j < length p.entries.items → IsOfOtherEvent (slice_index_or p.entries.items i d) (slice_index_or p.entries.items j d)
  pub untaken : (k : ℕ) (d : EntryState) → 0 < count → count ≤ k + 5 → k < length p.entries.items → slice_index_or p.entries.items k d ≡ untaken_entry

-- The entries of a state whose summary fits have room.
pub room_of : (c : Config) (p : Persist) → summary_fits c p ≡ true → length p.entries.items ≤ c.memory
room_of c p fits = leb-true _ c.memory (and_parts _ _ (and_parts _ _ (and_parts _ _ (and_parts _ _ fits).0).0).0).0

-- Its noted events are configured.
pub notes_of : (c : Config) (p : Persist) → summary_fits c p ≡ true
    → (note_fits c.events.items p.first_failed ≡ true) × (note_fits c.events.items p.first_confirmed ≡ true) × (note_fits c.events.items p.recent_failed ≡ true) × (note_fits c.events.items p.recent_confirmed ≡ true)
notes_of c p fits =
    let a = and_parts _ _ fits in
    let b = and_parts _ _ a.0 in
    let d = and_parts _ _ b.0 in
    ((and_parts _ _ d.0).1, d.1, b.1, a.1)

-- No block of states reads an entry: none is read before the first of them, and each before the later ones.
pub before_states : (count k size : ℕ) → (count < 5) ⊎ ((parts_1 ≤ count) × (size ≤ 16)) → k + 5 < count + 1 → k < size → k + 5 < count
before_states count k size apart below within = ⊎_elim (λ first_ones. omega (arith, below, first_ones)) (λ later. omega (arith, later.0, later.1, within)) apart

module _ (c : Config) (value : ℕ → Content) (commit : Commit) (count : ℕ) (p : Persist) (known : Sofar c value commit count p) where
  -- The blocks before stay, and the one that was taken is in the state.
  contents_more : (held : List ℕ) (q : Persist) → with_part (part_of_block (3 + count)) held p ≡ q → held ≡ part_bytes q (part_of_block (3 + count)) → value (number_of (3 + count) (index_in commit (3 + count))) ≡ bytes held
      → (id : ℕ) → 3 ≤ id → id < 3 + (count + 1) → IsTrue (is_used c id) → value (number_of id (index_in commit id)) ≡ bytes (part_bytes q (part_of_block id))
  contents_more held q gives is content id low below used = elim (cases_lt id (3 + count)) [
    | inl before ↦
        known.contents id low before used ∙ ap bytes (sym (bytes_kept held p (3 + count) id low before) ∙ ap (λ (r : Persist). part_bytes r (part_of_block id)) gives)
    | inr past ↦
        let here : 3 + count ≡ id = omega (arith, below, past) in
        subst (λ (n : ℕ). value (number_of n (index_in commit n)) ≡ bytes (part_bytes q (part_of_block n))) here (content ∙ ap bytes is)
  ]

  -- A summary.
  by_summary : (held : List ℕ) → count ≡ 0 → summary_fits c (with_part Summary held p) ≡ true
      → ((id : ℕ) → 3 ≤ id → id < 3 + (count + 1) → IsTrue (is_used c id) → value (number_of id (index_in commit id)) ≡ bytes (part_bytes (with_part Summary held p) (part_of_block id)))
      → Sofar c value commit (count + 1) (with_part Summary held p)
  unfolding with_part with_summary
  by_summary held at fits contents = record {
    contents = contents;
    states_are = known.states_are;
    summary_is = λ _. fits;
    few = omega (arith, length-replicate (min (slice_index held 2) 16) untaken_entry);
    entries_are = λ k d below within. absurd (omega (arith, below, at));
    distinct = λ i j d order below within. absurd (omega (arith, below, at));
    untaken = λ k d some past within. get_or-replicate (min (slice_index held 2) 16) k untaken_entry d (omega (arith, within, length-replicate (min (slice_index held 2) 16) untaken_entry));
  }

  -- States of sixteen events.
  by_states : (held : List ℕ) (first : ℕ) → 0 < count → (count < 5) ⊎ ((parts_1 ≤ count) × (length p.entries.items ≤ 16)) → states_fit c.events.items (with_states held first 16 p.events.items) first 16 ≡ true
      → ((id : ℕ) → 3 ≤ id → id < 3 + (count + 1) → IsTrue (is_used c id) → value (number_of id (index_in commit id)) ≡ bytes (part_bytes (with_part (States first) held p) (part_of_block id)))
      → Sofar c value commit (count + 1) (with_part (States first) held p)
  unfolding with_part
  by_states held first some apart fits contents = record {
    contents = contents;
    states_are = set_states_fit c.events.items held first p.events.items known.states_are fits;
    summary_is = λ _. known.summary_is some;
    few = known.few;
    entries_are = λ k d below within. known.entries_are k d (before_states count k _ apart below within) within;
    distinct = λ i j d order below within. known.distinct i j d order (before_states count j _ apart below within) within;
    untaken = λ k d _ past within. known.untaken k d some (omega (arith, past)) within;
  }

  -- An entry.
  by_entry : (held : List ℕ) (place : ℕ) → place + 5 ≡ count
      → place_fits c.events.items (set p.entries.items place (entry_from held)) place (slice_get (set p.entries.items place (entry_from held)) place) ≡ true
      → ((id : ℕ) → 3 ≤ id → id < 3 + (count + 1) → IsTrue (is_used c id) → value (number_of id (index_in commit id)) ≡ bytes (part_bytes (with_part (Entry place) held p) (part_of_block id)))
      → Sofar c value commit (count + 1) (with_part (Entry place) held p)
  unfolding with_part
  by_entry held place at fits contents = record {
    contents = contents;
    states_are = known.states_are;
    summary_is = λ _.
        subst (λ (n : ℕ). (nat_le n c.memory && note_fits c.events.items p.first_failed && note_fits c.events.items p.first_confirmed && note_fits c.events.items p.recent_failed && note_fits c.events.items p.recent_confirmed) ≡ true)
        (sym (length-set p.entries.items place e)) (known.summary_is (omega (arith, at)));
    few = omega (arith, length-set p.entries.items place e, known.few);
    entries_are = λ k d below within. elim (cases_eq k place) [
      | inl same ↦ subst (λ (n : ℕ). IsEntryOf c.events.items (slice_index_or after n d)) (sym same) (here d (omega (arith, length-set p.entries.items place e, within, same)))
      | inr other ↦
          subst (IsEntryOf c.events.items) (sym (get_or-set_other p.entries.items place k e d other))
          (known.entries_are k d (omega (arith, below, at, other)) (omega (arith, length-set p.entries.items place e, within)))
    ];
    distinct = λ i j d order below within.
        let size : j < length p.entries.items = omega (arith, length-set p.entries.items place e, within) in
        let left : slice_index_or after i d ≡ slice_index_or p.entries.items i d = get_or-set_other p.entries.items place i e d (λ x. omega (arith, x, order, below, at)) in
        elim (cases_eq j place) [
          | inl same ↦ λ equal. apart i d (omega (arith, order, same)) (omega (arith, size, same))
              (ap (λ (x : EntryState). x.event) (sym left) ∙ equal ∙ ap (λ (n : ℕ). (slice_index_or after n d).event) same ∙ ap (λ (x : EntryState). x.event) (get_or-set_same p.entries.items place e d (omega (arith, size, same))))
          | inr other ↦ λ equal. known.distinct i j d order (omega (arith, below, at, other)) size
              (ap (λ (x : EntryState). x.event) (sym left) ∙ equal ∙ ap (λ (x : EntryState). x.event) (get_or-set_other p.entries.items place j e d other))
        ];
    untaken = λ k d _ past within.
        get_or-set_other p.entries.items place k e d (λ x. omega (arith, x, past, at)) ∙ known.untaken k d (omega (arith, at)) (omega (arith, past)) (omega (arith, length-set p.entries.items place e, within));
  }
    where
      e : EntryState
      e = entry_from held

      after : List EntryState
      after = set p.entries.items place e

      passes : place < length p.entries.items → (entry_fits_at (slice_get c.events.items e.event) e && is_alone after place e.event) ≡ true
      passes within = subst (λ (o : Option EntryState). place_fits c.events.items after place o ≡ true) (set_here p.entries.items place e within) fits

      here : (d : EntryState) → place < length p.entries.items → IsEntryOf c.events.items (slice_index_or after place d)
      here d within = subst (IsEntryOf c.events.items) (sym (get_or-set_same p.entries.items place e d within)) (entry_by_test c.events.items e (and_parts (entry_fits_at (slice_get c.events.items e.event) e) (is_alone after place e.event) (passes within)).0)

      none_before : place < length p.entries.items → position (is_of_event e.event) (take place after) ≡ None
      none_before within =
          let one : is_alone after place e.event ≡ true = (and_parts (entry_fits_at (slice_get c.events.items e.event) e) (is_alone after place e.event) (passes within)).1 in
          none_from (position (is_of_event e.event) (take place after))
          (and_parts (is_none (position (is_of_event e.event) (take place after))) (is_none (position (is_of_event e.event) (drop (place + 1) after))) one).0

      apart : (i : ℕ) (d : EntryState) → i < place → place < length p.entries.items → (slice_index_or p.entries.items i d).event ≡ e.event → ⊥
      apart i d before within equal =
          let size : i < length (take place after) = omega (arith, length-take place after, length-set p.entries.items place e, before, within) in
          let fails = position-None (is_of_event e.event) (take place after) i d (none_before within) size in
          let at_i : slice_index_or (take place after) i d ≡ slice_index_or p.entries.items i d =
          get_or-take place after i d before ∙ get_or-set_other p.entries.items place i e d (λ x. omega (arith, x, before)) in
          eqb-false _ _ (sym (ap (λ (x : EntryState). x.event == e.event) at_i) ∙ fails) equal

-- ---- one block more
module _ (c : Config) (value : ℕ → Content) (commit : Commit) (count : ℕ) (p q : Persist) (known : Sofar c value commit count p) where
  -- A used block, by its part.
  finish : (part : Part) → part_of_block (3 + count) ≡ part → (held : List ℕ) → with_part (part_of_block (3 + count)) held p ≡ q → held ≡ part_bytes q (part_of_block (3 + count)) → part_fits c q (part_of_block (3 + count)) ≡ true
      → value (number_of (3 + count) (index_in commit (3 + count))) ≡ bytes held
      → (part_fits c (with_part part held p) part ≡ true
      → ((id : ℕ) → 3 ≤ id → id < 3 + (count + 1) → IsTrue (is_used c id) → value (number_of id (index_in commit id)) ≡ bytes (part_bytes (with_part part held p) (part_of_block id)))
      → Sofar c value commit (count + 1) (with_part part held p))
      → Sofar c value commit (count + 1) q
  finish part is held gives same fits content make =
      let gives_part : with_part part held p ≡ q = subst (λ (x : Part). with_part x held p ≡ q) is gives in
      let fits_part : part_fits c (with_part part held p) part ≡ true =
      subst (λ (r : Persist). part_fits c r part ≡ true) (sym gives_part) (subst (λ (x : Part). part_fits c q x ≡ true) is fits) in
      let all = contents_more c value commit count p known held q gives same content in
      let Contents : Persist → Type 0 = λ r. (id : ℕ) → 3 ≤ id → id < 3 + (count + 1) → IsTrue (is_used c id) → value (number_of id (index_in commit id)) ≡ bytes (part_bytes r (part_of_block id)) in
      subst (Sofar c value commit (count + 1)) gives_part (make fits_part (subst Contents (sym gives_part) all))

  used_step : (held : List ℕ) → value (number_of (3 + count) (index_in commit (3 + count))) ≡ bytes held → taken c (part_of_block (3 + count)) held p ≡ Some q → Sofar c value commit (count + 1) q
  unfolding with_part
  used_step held content is =
      let t = taken_holds c (part_of_block (3 + count)) held (with_part (part_of_block (3 + count)) held p) q is in
      elim (kind_of (3 + count) (omega arith)) [
        | is_summary at of ↦ finish Summary of held t.0 t.1 t.2 content (λ fits contents. by_summary c value commit count p known held (omega (arith, at)) fits contents)
        | are_states low high of ↦ finish (States (16 * (3 + count - 4))) of held t.0 t.1 t.2 content
            (λ fits contents. by_states c value commit count p known held (16 * (3 + count - 4)) (omega (arith, low)) (inl (omega (arith, high))) (states_test held (16 * (3 + count - 4)) fits) contents)
        | are_later low of ↦ finish (States (first_later_event + states_per_block * (3 + count - later_states_id))) of held t.0 t.1 t.2 content
            (λ fits contents. by_states c value commit count p known held (first_later_event + states_per_block * (3 + count - later_states_id)) (omega (arith, low)) (inr (omega (arith, low), known.few)) (states_test held (first_later_event + states_per_block * (3 + count - later_states_id)) fits) contents)
        | is_entry low high of ↦ finish (Entry (3 + count - 8)) of held t.0 t.1 t.2 content
            (λ fits contents. by_entry c value commit count p known held (3 + count - 8) (omega (arith, low)) (entry_test held fits) contents)
      ]
    where
      states_test : (held : List ℕ) (first : ℕ) → part_fits c (with_part (States first) held p) (States first) ≡ true → states_fit c.events.items (with_states held first 16 p.events.items) first 16 ≡ true
      states_test held first fits = fits

      entry_test : (held : List ℕ) → part_fits c (with_part (Entry (3 + count - 8)) held p) (Entry (3 + count - 8)) ≡ true
          → place_fits c.events.items (set p.entries.items (3 + count - 8) (entry_from held)) (3 + count - 8) (slice_get (set p.entries.items (3 + count - 8) (entry_from held)) (3 + count - 8)) ≡ true
      entry_test held fits = fits

  -- A block that is not used.
  unused_step : is_used c (3 + count) ≡ false → count < parts → Sofar c value commit (count + 1) p
  unused_step unused below = record {
    contents = λ id low high used. elim (cases_lt id (3 + count)) [
      | inl before ↦ known.contents id low before used
      | inr past ↦ absurd (let here : id ≡ 3 + count = omega (arith, high, past) in let yes = subst (λ (n : ℕ). is_used c n ≡ true) here used in cc)
    ];
    states_are = known.states_are;
    summary_is = λ _. known.summary_is some;
    few = known.few;
    entries_are = λ k d before within. known.entries_are k d (earlier k before within) within;
    distinct = λ i j d order before within. known.distinct i j d order (earlier j before within) within;
    untaken = λ k d _ past within. known.untaken k d some (omega (arith, past)) within;
  }
    where
      some : 0 < count
      some = elim (cases_eq count 0) [
        | inl none ↦ absurd (let no = subst (λ (n : ℕ). is_used c (3 + n) ≡ false) none unused in cc)
        | inr other ↦ omega (arith, other)
      ]

      earlier : (k : ℕ) → k + 5 < count + 1 → k < length p.entries.items → k + 5 < count
      earlier k before within = elim (cases_eq (k + 5) count) [
        | inr other ↦ omega (arith, other, before)
        | inl here ↦ elim (kind_of (3 + count) (omega arith)) [
          | is_summary at of ↦ absurd (omega (arith, at, here))
          | are_states low high of ↦ absurd (omega (arith, high, here))
          | are_later low of ↦ absurd (omega (arith, low, here, within, known.few))
          | is_entry low high of ↦ absurd (
              let room : k < c.memory = omega (arith, within, room_of c p (known.summary_is some)) in
              let place : 3 + count - 8 ≡ k = omega (arith, here) in
              let has : has_part c (part_of_block (3 + count)) ≡ true =
              subst (λ (x : Part). has_part c x ≡ true) (sym of) (subst (λ (n : ℕ). nat_lt n c.memory ≡ true) (sym place) (lt-ltb k c.memory room)) in
              let yes = used_from c (3 + count) (omega arith) (omega (arith, below)) has in cc)
        ]
      ]

  pub one_block : count < parts → with_named c value commit (3 + count) p ≡ Ok q → Sofar c value commit (count + 1) q
  one_block below is =
      let g = gave c value commit (3 + count) p q is in
      elim (cases_Bool (is_used c (3 + count))) [
        | inl used ↦ let from = g.used used in used_step from.0 from.1 from.2
        | inr unused ↦ subst (Sofar c value commit (count + 1)) (sym (g.unused unused)) (unused_step unused below)
      ]

-- ---- all blocks

at_start : (c : Config) (value : ℕ → Content) (commit : Commit) → Sofar c value commit 0 (initial_state c)
at_start c value commit = record {
  contents = λ id low high used. absurd (omega (arith, low, high));
  states_are = initial_states c;
  summary_is = λ some. absurd (omega (arith, some));
  few = omega arith;
  entries_are = λ k d before within. absurd (omega (arith, before));
  distinct = λ i j d order before within. absurd (omega (arith, before));
  untaken = λ k d some past within. absurd (omega (arith, some));
}

pub sofar : (c : Config) (value : ℕ → Content) (commit : Commit) (count : ℕ) (p : Persist) → count ≤ parts → parts_read c value commit count ≡ Ok p → Sofar c value commit count p
unfolding parts_read
sofar c value commit zero p most is = let same : initial_state c ≡ p = cc in subst (Sofar c value commit 0) same (at_start c value commit)
sofar c value commit (suc count) p most is =
    let before = both_ok (parts_read c value commit count) (with_named c value commit (3 + count)) p is in
    let more : count + 1 ≡ suc count = omega arith in
    subst (λ (n : ℕ). Sofar c value commit n p) more
    (one_block c value commit count before.0 p (sofar c value commit count before.0 (omega (arith, most)) before.1) (omega (arith, most)) before.2)

-- The state that was read fits, and is in the blocks.
pub read_fits : (c : Config) (value : ℕ → Content) (commit : Commit) (p : Persist) → c.memory ≤ 16 → Sofar c value commit parts p → Fits c p
read_fits c value commit p memory known =
    let fits = known.summary_is (omega arith) in
    let room = room_of c p fits in
    record {
      states = known.states_are;
      room = room;
      entries = λ k d within. known.entries_are k d (omega (arith, within, room, memory)) within;
      distinct = λ i j d order within. known.distinct i j d order (omega (arith, within, room, memory)) within;
      first_failed = noted_by_test c.events.items p.first_failed (notes_of c p fits).0;
      first_confirmed = noted_by_test c.events.items p.first_confirmed (notes_of c p fits).1;
      recent_failed = noted_by_test c.events.items p.recent_failed (notes_of c p fits).2;
      recent_confirmed = noted_by_test c.events.items p.recent_confirmed (notes_of c p fits).3;
    }

pub read_blocks : (c : Config) (value : ℕ → Content) (commit : Commit) (p : Persist) → Sofar c value commit parts p → BlocksHold c value commit p
read_blocks c value commit p known = λ id used.
    let range = (and_parts _ _ used).0 in
    known.contents id (leb-true 3 id (and_parts _ _ range).0) (ltb-true id end_part (and_parts _ _ range).1) used
