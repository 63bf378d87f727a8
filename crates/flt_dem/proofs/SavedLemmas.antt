-- What is read of states and entries that stand for a base and marks.
use Rattle.std.proofs.Common.{◌≡◌, ◌∙◌, ℕ, zero, suc, ◌<◌, ◌≤◌, nat_eq, List, [], ◌∷◌, ◌++◌, map, length, take, Some, arith, refl, sym, ap, inl, inr, eqb-true}
use Rattle.std.proofs.Math.Seq.{take-suc}
use Rattle.std.proofs.lemmas.Bool.{cases_Bool}
use Rattle.std.proofs.lemmas.List.{map-append, take_all}
use Rattle.std.proofs.lemmas.Option.{get_or_from_slice_get}
use Rattle.std.specs.List.{find}
use Rattle.std.specs.Prelude.{slice_get}
use Rattle.flt_config.specs.declared.persist.EventState.{EventState}
use Rattle.flt_config.specs.declared.persist.EntryState.{EntryState}
use Rattle.flt_config.specs.Durable.{is_of_event}
use Rattle.flt_model.specs.Start.{Start, count}
use Rattle.flt_model.specs.Mark.{Trace}
use Rattle.flt_model.specs.Durable.{below, state_at}
use Rattle.flt_model.specs.Entry.{entries, entry_of, holders, has_entry, is_among}
use Rattle.flt_model.specs.Answer.{entry_where}
use Rattle.flt_model.proofs.EntryLaws.{holders_have_entries}
use Rattle.flt_dem.specs.Standing.{StatesStand}

-- A list by its places.
by_places : (f : ℕ → EventState) (states : List EventState) (n : ℕ) → n ≤ length states → ((k : ℕ) → k < n → slice_get states k ≡ Some (f k)) → take n states ≡ map f (below n)
by_places f states zero h is = refl
by_places f states (suc n) h is =
    take-suc states n (f n) (omega arith)
    ∙ ap (λ last. take n states ++ last ∷ []) (get_or_from_slice_get states n (f n) (f n) (is n (omega arith)))
    ∙ ap (λ front. front ++ f n ∷ []) (by_places f states n (omega arith) (λ k below. is k (omega arith)))
    ∙ sym (map-append f (below n) (n ∷ []))

-- The states are those of the events in order of number.
pub states_saved : (life : Start) (marks : Trace) (states : List EventState) → StatesStand life marks states → states ≡ map (state_at life marks) (below (count life))
states_saved life marks states s =
    sym (take_all (count life) states (omega (arith, s.one_each)))
    ∙ by_places (state_at life marks) states (count life) (omega (arith, s.one_each)) (λ k below. s.each k below)

-- The entry of an event is found where it is among the holders.
found_entry : (life : Start) (marks : Trace) (event : ℕ) (events : List ℕ) →
    find (is_of_event event) (map (λ other. entry_of life other marks) events) ≡ entry_where life event marks (is_among event events)
found_entry life marks event [] = refl
found_entry life marks event (first ∷ events) =
    elim (cases_Bool (nat_eq first event)) [
      | inl e ↦ rw e (ap (λ x. Some (entry_of life x marks)) (eqb-true first event e))
      | inr e ↦ rw e (found_entry life marks event events)
    ]

pub entry_found : (life : Start) (marks : Trace) (event : ℕ) (held : List EntryState) → held ≡ entries life marks →
    find (is_of_event event) held ≡ entry_where life event marks (has_entry life event marks)
entry_found life marks event held is =
    ap (λ xs. find (is_of_event event) xs) is
    ∙ found_entry life marks event (holders life marks)
    ∙ ap (λ b. entry_where life event marks b) (holders_have_entries life marks event)
