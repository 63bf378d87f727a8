-- A lock from its main seat that took no call to the journal that it leaves.
use Rattle.std.proofs.Common.{◌≡◌, ⊎_elim, ℕ, List, [], ◌∷◌, All, refl, sym, subst}
use Rattle.std.proofs.lemmas.List.Elements.{All-contains, All-nil, All-cons, All-head}
use mathlib.Core.List.{IsPrefix}
use Rattle.flt_turn.specs.declared.vault.Entry.{Entry}
use Rattle.flt_turn.specs.Journal.{calls_of, Interleaves}
use Rattle.flt_turn.specs.Seats.{Seated, main_seat}
use Rattle.flt_fork.specs.Known.{IsKnownTo}
use Rattle.flt_fork.specs.Lived.{CouldClose}
use Rattle.flt_fork.specs.Mixing.{Mixes}
use Rattle.flt_fork.proofs.Journals.{no_calls, none_of, prefix_trans}

nothing_yet : {O : Type 0} (journal : List (Entry O)) → Mixes journal ((0, []) ∷ []) → journal ≡ []
nothing_yet {O} journal mixes = no_calls journal (λ n. none_of journal journal ((0, []) ∷ []) n mixes (λ none. none)
    (All-cons (λ (lane : ℕ × List O). lane.0 ≡ n → calls_of n journal ≡ []) (0, []) []
    (λ same. subst (λ m. calls_of m journal ≡ []) same (All-head (λ (lane : ℕ × List O). calls_of lane.0 journal ≡ lane.1) (0, []) [] mixes.each))
    (All-nil (λ (lane : ℕ × List O). lane.0 ≡ n → calls_of n journal ≡ []))))

module _ {S O : Type 0} where
  -- The lock was closed, and left this journal.
  pub closed : (after : Seated S O) (journal : List (Entry O)) → IsPrefix after.seen journal → All (λ old. IsPrefix old journal) after.olds → Interleaves journal ((after.number, after.mine) ∷ after.ended) → CouldClose after journal
  closed after journal seen olds mixes = record { seen = seen; olds = olds; mixes = record { each = mixes.each; others = mixes.others } }

  pub empty_before : (main : Seated S O) (before : List (Entry O)) → main ≡ main_seat main.lock main.start main.left → CouldClose main before → before ≡ []
  empty_before main before fresh whole = nothing_yet before (subst (λ (s : Seated S O). Mixes before ((s.number, s.mine) ∷ s.ended)) fresh whole.mixes)

-- A seat that took no call.
pub fresh_of : {S O : Type 0} (main : Seated S O) (lock : _) (start : S) (room : ℕ) → main ≡ main_seat lock start room → main ≡ main_seat main.lock main.start main.left
fresh_of {S} {O} main lock start room is = subst (λ (m : Seated S O). m ≡ main_seat m.lock m.start m.left) (sym is) refl

-- What was known is a beginning of the journal that the closed lock left.
pub known_whole : {S O : Type 0} (main : Seated S O) (journal known : List (Entry O)) → CouldClose main journal → IsKnownTo main known → IsPrefix known journal
known_whole main journal known whole =
    ⊎_elim (λ pre. prefix_trans known main.seen journal pre whole.seen) (λ old. prefix_trans known old.0 journal old.2 (All-contains (λ o. IsPrefix o journal) main.olds old.0 whole.olds old.1))
