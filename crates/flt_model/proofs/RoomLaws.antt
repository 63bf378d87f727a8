-- The entries stay of distinct events, and within the memory.
use Rattle.std.proofs.Common.{◌≡◌, ◌∙◌, ℕ, ◌+◌, ◌<◌, ◌≤◌, nat_eq, true, false, not, List, [], ◌∷◌, ◌++◌, filter, map, get_or, length, arith, refl, sym, ap, subst, inl, inr, eq-eqb, length-append}
use Rattle.std.proofs.lemmas.Bool.{cases_Bool, ne_eqb, or_cases, or_parts, or_from, and_right}
use Rattle.flt_model.specs.Start.{Start}
use Rattle.flt_model.specs.Mark.{Mark, Trace, Of}
use Rattle.flt_model.specs.Mark.Mark.{Failed, Passed, Cycle, Clear, Aged, Displaced, Added, Refused}
use Rattle.flt_model.specs.Entry.{holders, is_among, is_other}
use Rattle.flt_model.specs.Laws.{Distinct, IsWithinMemory, FittingBaseHasRoom, EntriesKeepRoom}
use Rattle.flt_config.specs.declared.persist.EntryState.{EntryState}
use Rattle.std.proofs.lemmas.List.{get_or-map, length-map}
use Rattle.flt_model.proofs.EntryLaws.{among_filtered, among_added}
use Rattle.flt_model.proofs.EntryLemmas.{distinct_from_places}
use Rattle.flt_model.proofs.KeptByCalls.{IsNoAdding, IsKept, calls_keep}

-- ---- lists of events

shorter : (event : ℕ) (events : List ℕ) → length (filter (is_other event) events) ≤ length events
shorter event [] = omega arith
shorter event (first ∷ events) =
    let more = shorter event events in
    elim (cases_Bool (nat_eq first event)) [ inl e ↦ rw e (omega arith) | inr e ↦ rw e (omega arith) ]

shorter_by_one : (event : ℕ) (events : List ℕ) → is_among event events ≡ true → length (filter (is_other event) events) < length events
shorter_by_one event [] e = absurd (cc)
shorter_by_one event (first ∷ events) e =
    let more = shorter event events in
    elim (cases_Bool (nat_eq first event)) [
      | inl same ↦ rw same (omega arith)
      | inr ne ↦ elim (or_cases (nat_eq first event) (is_among event events) e) [
        | inl same ↦ absurd (cc)
        | inr later ↦ let less = shorter_by_one event events later in rw ne (omega arith)
      ]
    ]

distinct_filtered : (event : ℕ) (events : List ℕ) → Distinct events → Distinct (filter (is_other event) events)
distinct_filtered event [] d = tt
distinct_filtered event (first ∷ events) d =
    let more = distinct_filtered event events d.1 in
    elim (cases_Bool (nat_eq first event)) [
      | inl e ↦ rw e more
      | inr e ↦ rw e (among_filtered first event events ∙ and_right (not (nat_eq event first)) (is_among first events) d.0, more)
    ]

distinct_pushed : (event : ℕ) (events : List ℕ) → Distinct events → is_among event events ≡ false → Distinct (events ++ event ∷ [])
distinct_pushed event [] d absent = (refl, tt)
distinct_pushed event (first ∷ events) d absent =
    let parts = or_parts (nat_eq first event) (is_among event events) absent in
    let ne : nat_eq event first ≡ false = ne_eqb event first (λ same. absurd (cc (eq-eqb first event (sym same), parts.0))) in
    (among_added first event events ∙ or_from (is_among first events) (nat_eq event first) d.0 ne, distinct_pushed event events d.1 parts.1)

-- An event without an entry has none either where another one's is removed.
pub still_absent : (event other : ℕ) (events : List ℕ) → is_among event events ≡ false → is_among event (filter (is_other other) events) ≡ false
still_absent event other events absent = among_filtered event other events ∙ and_right (not (nat_eq other event)) (is_among event events) absent

pushed_length : (event : ℕ) (events : List ℕ) → length (events ++ event ∷ []) ≡ length events + 1
pushed_length event events = omega (arith, length-append events (event ∷ []))

-- ---- the marks of a call

module _ (life : Start) where
  removed : (event : ℕ) (mark : Mark) (signals : List ℕ) (marks : Trace) → holders life (Of event mark signals ∷ marks) ≡ filter (is_other event) (holders life marks) →
      IsWithinMemory life marks → IsWithinMemory life (Of event mark signals ∷ marks)
  removed event mark signals marks is r = record {
    distinct = subst Distinct (sym is) (distinct_filtered event (holders life marks) r.distinct);
    room = omega (arith, ap (λ (events : List ℕ). length events) is, shorter event (holders life marks), r.room);
  }

  kept_by_mark : (event : ℕ) (mark : Mark) (signals : List ℕ) (marks : Trace) → IsNoAdding mark → IsWithinMemory life marks → IsWithinMemory life (Of event mark signals ∷ marks)
  kept_by_mark event Failed signals marks plain r = record { distinct = r.distinct; room = r.room }
  kept_by_mark event Passed signals marks plain r = record { distinct = r.distinct; room = r.room }
  kept_by_mark event Cycle signals marks plain r = record { distinct = r.distinct; room = r.room }
  kept_by_mark event Clear signals marks plain r = removed event Clear signals marks refl r
  kept_by_mark event Aged signals marks plain r = removed event Aged signals marks refl r
  kept_by_mark event Displaced signals marks plain r = removed event Displaced signals marks refl r
  kept_by_mark event Added signals marks plain r = absurd plain
  kept_by_mark event Refused signals marks plain r = record { distinct = r.distinct; room = r.room }

  kept_by_adding : (event : ℕ) (signals : List ℕ) (marks : Trace) → is_among event (holders life marks) ≡ false → length (holders life marks) < life.config.memory →
      IsWithinMemory life marks → IsWithinMemory life (Of event Added signals ∷ marks)
  kept_by_adding event signals marks absent less r = record {
    distinct = distinct_pushed event (holders life marks) r.distinct absent;
    room = omega (arith, pushed_length event (holders life marks), less);
  }

  within_memory_is_kept : IsKept life (IsWithinMemory life)
  within_memory_is_kept = record {
    plain = kept_by_mark;
    into_room = kept_by_adding;
    in_place = λ event worst signals marks absent present r.
        kept_by_adding event signals (Of worst Displaced signals ∷ marks) (still_absent event worst (holders life marks) absent)
        (omega (arith, shorter_by_one worst (holders life marks) present, r.room)) (kept_by_mark worst Displaced signals marks tt r);
    all_cleared = λ marks r. record { distinct = r.distinct; room = r.room };
  }

pub entries_keep_room : EntriesKeepRoom
entries_keep_room life past r = calls_keep life (IsWithinMemory life) (within_memory_is_kept life) past r

-- The events of entries that are of distinct events.
pub fitting_base_has_room : FittingBaseHasRoom
fitting_base_has_room life fits =
    let held = life.base.entries.items in
    let some : EntryState = record { event = 0; occurrence = 0; first = record { items = [] }; recent = record { items = [] } } in
    let events = map (λ (entry : EntryState). entry.event) held in
    let same_length : length events ≡ length held = length-map held (λ (entry : EntryState). entry.event) in
    let event_at : (place : ℕ) → place < length held → get_or events place 0 ≡ (get_or held place some).event =
    λ place h. get_or-map (λ (entry : EntryState). entry.event) held place some 0 h in
    record {
      distinct = distinct_from_places events (λ i j less within same.
          let second : j < length held = omega (arith, within, same_length) in
          let first : i < length held = omega (arith, less, second) in
          fits.distinct i j some less second (sym (event_at i first) ∙ same ∙ event_at j second));
      room = omega (arith, same_length, fits.room);
    }
