-- The entries are in the order in which they were last added.
use Rattle.std.proofs.Common.{◌≡◌, ℕ, ◌<◌, ◌≢◌, true, false, List, [], ◌∷◌, filter, get_or, length, arith, refl, subst, eq-eqb}
use Rattle.std.specs.Prelude.{AllPairs}
use Rattle.std.proofs.lemmas.Bool.{ne_eqb}
use Rattle.std.proofs.lemmas.List.Kept.{AllPairs-cons, AllPairs-filter}
use Rattle.std.proofs.lemmas.List.Quantifiers.{all_pairs_push}
use Rattle.std.proofs.lemmas.List.{get_or_default}
use Rattle.flt_model.specs.Start.{Start}
use Rattle.flt_model.specs.Mark.{Mark, Trace, Of}
use Rattle.flt_model.specs.Mark.Mark.{Failed, Passed, Cycle, Clear, Aged, Displaced, Added, Refused}
use Rattle.flt_model.specs.Entry.{holders, is_among, is_other}
use Rattle.flt_model.specs.Laws.{Distinct, is_behind, was_added_later, AreInOrder, EntriesStandAsAdded}
use Rattle.flt_model.proofs.EntryLemmas.{apart, among_at}
use Rattle.flt_model.proofs.RoomLaws.{fitting_base_has_room, still_absent}
use Rattle.flt_model.proofs.KeptByCalls.{IsNoAdding, IsKept, calls_keep}

-- An element of a list is among it.
among_at_any : (events : List ℕ) (place d : ℕ) → place < length events → is_among (get_or events place d) events ≡ true
among_at_any events place d h = subst (λ event. is_among event events ≡ true) (get_or_default events place 0 d h) (among_at events place h)

-- The events of a list without repetition follow each other in the order of the list.
behind_in_list : (events : List ℕ) → Distinct events → AllPairs (λ first second. is_behind first second events ≡ true) events
behind_in_list [] distinct = λ i j d less within. absurd (omega (arith, within))
behind_in_list (event ∷ events) distinct =
    let rest = behind_in_list events distinct.1 in
    AllPairs-cons (λ first second. is_behind first second (event ∷ events) ≡ true) event events
    (λ place d within. rw (eq-eqb event event refl) (among_at_any events place d within))
    (λ i j d less within.
    let other : event ≢ get_or events i d = apart event (get_or events i d) events distinct.0 (among_at_any events i d (omega (arith, less, within))) in
    rw (ne_eqb event (get_or events i d) other) (rest i j d less within))

module _ (life : Start) where
  removed : (event : ℕ) (marks : Trace) → AreInOrder life marks →
      AllPairs (λ first second. was_added_later life marks first second ≡ true) (filter (is_other event) (holders life marks))
  removed event marks r = AllPairs-filter (λ first second. was_added_later life marks first second ≡ true) (is_other event) (holders life marks) r

  kept_by_mark : (event : ℕ) (mark : Mark) (signals : List ℕ) (marks : Trace) → IsNoAdding mark → AreInOrder life marks → AreInOrder life (Of event mark signals ∷ marks)
  kept_by_mark event Failed signals marks plain r = r
  kept_by_mark event Passed signals marks plain r = r
  kept_by_mark event Cycle signals marks plain r = r
  kept_by_mark event Clear signals marks plain r = removed event marks r
  kept_by_mark event Aged signals marks plain r = removed event marks r
  kept_by_mark event Displaced signals marks plain r = removed event marks r
  kept_by_mark event Added signals marks plain r = absurd plain
  kept_by_mark event Refused signals marks plain r = r

  -- An event that is added comes after all others, and does not change their order.
  kept_by_adding : (event : ℕ) (signals : List ℕ) (marks : Trace) → is_among event (holders life marks) ≡ false → AreInOrder life marks → AreInOrder life (Of event Added signals ∷ marks)
  kept_by_adding event signals marks absent r =
      let held = holders life marks in
      let other : (place d : ℕ) → place < length held → event ≢ get_or held place d =
      λ place d within. apart event (get_or held place d) held absent (among_at_any held place d within) in
      all_pairs_push (λ first second. was_added_later life (Of event Added signals ∷ marks) first second ≡ true) held event
      (λ i j d less within.
      rw (ne_eqb event (get_or held j d) (other j d within), ne_eqb event (get_or held i d) (other i d (omega (arith, less, within)))) (r i j d less within))
      (λ place d within. rw (eq-eqb event event refl) refl)

  order_is_kept : IsKept life (AreInOrder life)
  order_is_kept = record {
    plain = kept_by_mark;
    into_room = λ event signals marks absent less r. kept_by_adding event signals marks absent r;
    in_place = λ event worst signals marks absent present r.
        kept_by_adding event signals (Of worst Displaced signals ∷ marks) (still_absent event worst (holders life marks) absent) (kept_by_mark worst Displaced signals marks tt r);
    all_cleared = λ marks r. r;
  }

pub entries_stand_as_added : EntriesStandAsAdded
entries_stand_as_added life past fits =
    calls_keep life (AreInOrder life) (order_is_kept life) past (behind_in_list (holders life []) (fitting_base_has_room life fits).distinct)
