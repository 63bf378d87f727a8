-- What a seat knows of the journal before its calls and after them: stated of any machine.
use Rattle.std.proofs.Common.{◌≡◌, inl, inr, ⊎_elim, ℕ, List, [], ◌∷◌, ◌++◌, take, refl, ap, subst, sym, ◌∙◌}
use Rattle.std.specs.Prelude.{Contains}
use Rattle.std.proofs.lemmas.List.{append-nil}
use Rattle.std.proofs.lemmas.List.Elements.{All-contains}
use mathlib.Core.List.{IsPrefix}
use lib.Seq.{take_at}
use Rattle.flt_turn.specs.declared.vault.Entry.{Entry}
use Rattle.flt_turn.specs.Journal.{entry, ops_of}
use Rattle.flt_turn.specs.Seats.{Seated, Extends, ops_before}
use Rattle.flt_fork.specs.Mixing.{Call}
use Rattle.flt_fork.specs.Chain.{Chain}
use Rattle.flt_fork.specs.Known.{IsKnownTo}
use Rattle.flt_fork.proofs.Journals.{prefix_trans}

module _ {S O : Type 0} where
  -- What was known before a call comes before it.
  pub known_before : (before after : Seated S O) (op : O) (place : ℕ) (known : List (Entry O)) → (ext : Extends before after op place) → IsKnownTo before known → IsPrefix known (before.seen ++ ext.between)
  known_before before after op place known ext =
      ⊎_elim (λ pre. prefix_trans known before.seen (before.seen ++ ext.between) pre (ext.between, refl))
      (λ old. prefix_trans known old.0 (before.seen ++ ext.between) old.2 (All-contains (λ o. IsPrefix o (before.seen ++ ext.between)) before.olds old.0 ext.olds old.1))

  -- And is known after it.
  pub known_behind : (before after : Seated S O) (op : O) (place : ℕ) (known : List (Entry O)) → Extends before after op place → IsKnownTo before known → IsKnownTo after known
  known_behind before after op place known ext is =
      inl (subst (IsPrefix known) (sym ext.seen) (prefix_trans known (before.seen ++ ext.between) ((before.seen ++ ext.between) ++ _ ∷ []) (known_before before after op place known ext is) (_ ∷ [], refl)))

  pub knows_all : (seat : Seated S O) → IsKnownTo seat seat.seen
  knows_all seat = inl ([], append-nil seat.seen)

  -- The calls after what was known, up to a call.
  pub record Since (known : List (Entry O)) (before after : Seated S O) (op : O) (place : ℕ) : Type 0 where
    pub more : List (Entry O)
    pub seen : after.seen ≡ (known ++ more) ++ entry before.number op ∷ []
    pub ops_are : ops_before place after.seen ≡ ops_of (known ++ more)

  pub since : (known : List (Entry O)) (before after : Seated S O) (op : O) (place : ℕ) → IsKnownTo before known → Extends before after op place → Since known before after op place
  since known before after op place is ext =
      let front = before.seen ++ ext.between in
      let pre : IsPrefix known front = known_before before after op place known ext is in
      let taken : take place after.seen ≡ front = ap (take place) ext.seen ∙ take_at front (entry before.number op ∷ []) place ext.place_is in
      record {
        more = pre.0;
        seen = ext.seen ∙ ap (λ l. l ++ entry before.number op ∷ []) (sym pre.1);
        ops_are = ap ops_of (taken ∙ sym pre.1);
      }

  -- A seat that knows as much.
  pub known_same : (seat other : Seated S O) (known : List (Entry O)) → other.seen ≡ seat.seen → other.olds ≡ seat.olds → IsKnownTo seat known → IsKnownTo other known
  known_same seat other known seen olds =
      ⊎_elim (λ pre. inl (subst (IsPrefix known) (sym seen) pre)) (λ old. inr (old.0, subst (λ l. Contains l old.0) (sym olds) old.1, old.2))

module _ {S O R : Type 0} (admits : S → O → Type 0) (answer : S → List O → O → R) where
  -- Also after a chain of calls.
  pub known_along : (before : Seated S O) (calls : List (Call O R)) (after : Seated S O) (known : List (Entry O)) → Chain admits answer before calls after → IsKnownTo before known → IsKnownTo after known
  unfolding Chain
  known_along before [] after known same is = subst (λ (s : Seated S O). IsKnownTo s known) (sym same) is
  known_along before (call ∷ calls) after known chain is =
      known_along chain.0 calls after known chain.2 (known_behind before chain.0 call.op call.told.place known chain.1.place is)
