-- A draw keeps the rule.
use Rattle.std.proofs.Common.{◌≡◌, ◌≢◌, ℕ, ◌+◌, ◌%◌, ◌^◌, ◌<◌, ◌≤◌, List, [], ◌∷◌, set, get_or, Option, false, eqb, eq-eqb, ne_eqb, refl, sym, ap, ◌∙◌, subst, ⊎_elim, arith}
use Rattle.std.proofs.Math.Nat.{mod-eq_of_lt}
use mathlib.Core.Logic.{dite}
use mathlib.Core.Option.{some}
use native.Mathlib.Decide.{ℕ_discrete}
use lib.ListN.{get_elem?}
use Rattle.atomic_table.specs.Table.{Me, keeps, Allows}
use Rattle.atomic_table.proofs.Lists.{at_set}
use Rattle.flt_turn.specs.declared.machine.Machine.{Ghosts}
use Rattle.flt_turn.specs.declared.view.Stage.TheVariants.{Idle}
use Rattle.flt_turn.specs.declared.view.View.{View}
use Rattle.flt_turn.specs.Order.{holders, KnowsHistory, Orderly}
use Rattle.flt_turn.specs.Sums.{total, one_if}
use Rattle.flt_turn.specs.Vaults.{VaultOf}
use Rattle.flt_turn.specs.Views.{waits_at, serves_at, is_spent, waits, serves, left_of, drawn}
use Rattle.flt_turn.proofs.Apart.{bearers_same, seats_same, lengths_same}
use Rattle.flt_turn.proofs.Totals.{total-set, total-same, one_le}

module _ {M S O : Type 0} {m : Ghosts M S O} (start : S) (room : ℕ) where
  pub draws_ticket : (slots id : ℕ) (v : View S O) (held : List (ℕ × Option (VaultOf m))) → v.stage ≡ Idle → 0 < v.left
      → Allows (Orderly start room) slots id (v, held) 0 (λ n. (n + 1) % 2 ^ 64) (λ n me. me ≡ (drawn n v, held))
  draws_ticket slots id v held idle some_left s h deep at _ =
      let d : ℕ = h.tally.next in
      let found : get_or s.words 0 0 ≡ d = ap (λ ws. get_or ws 0 0) h.words in
      let w : View S O = drawn (get_or s.words 0 0) v in
      let mine_left : v.left ≤ total left_of s.views = one_le left_of s.views id v at in
      let next_is : (get_or s.words 0 0 + 1) % 2 ^ 64 ≡ d + 1 = ap (λ n. (n + 1) % 2 ^ 64) found ∙ mod-eq_of_lt (omega (arith, h.sums.places, h.small)) in
      let words_are : set s.words 0 ((get_or s.words 0 0 + 1) % 2 ^ 64) ≡ (d + 1) ∷ h.tally.served ∷ [] = ap (λ ws. set ws 0 ((get_or s.words 0 0 + 1) % 2 ^ 64)) h.words ∙ ap (λ n. n ∷ h.tally.served ∷ []) next_is in
      let serves_same : (t : ℕ) → total (serves t) (set s.views id w) ≡ total (serves t) s.views = λ t. total-same (serves t) s.views id v w at (sym (ap (serves_at t) idle)) in
      let waits_more : (t : ℕ) → total (waits t) (set s.views id w) ≡ total (waits t) s.views + one_if (eqb d t) = λ t.
      let change = total-set (waits t) s.views id v w at in
      let before : waits t v ≡ 0 = ap (waits_at t) idle in
      let after : waits t w ≡ one_if (eqb d t) = ap (λ n. one_if (eqb n t)) found in
      omega (arith, change, before, after) in
      let holders_more : (t : ℕ) → holders t (set s.views id w) ≡ holders t s.views + one_if (eqb d t) = λ t. omega (arith, waits_more t, serves_same t) in
      let holders_same : (t : ℕ) → t ≢ d → holders t (set s.views id w) ≡ holders t s.views = λ t apart.
      let none : one_if (eqb d t) ≡ 0 = ap (λ b. one_if b) (ne_eqb d t (λ same. apart (sym same))) in
      omega (arith, holders_more t, none) in
      let holders_one : holders d (set s.views id w) ≡ 1 =
      let one : one_if (eqb d d) ≡ 1 = ap (λ b. one_if b) (eq-eqb d d refl) in
      let none_yet : holders d s.views ≡ 0 = h.tickets.to_come d (omega arith) in
      omega (arith, holders_more d, one, none_yet) in
      let unspent : is_spent v.stage ≡ false = ap is_spent idle in
      let bearers_as_before = bearers_same start room s h id v at unspent w refl refl in
      let left_change = total-set left_of s.views id v w at in (
        w,
        keeps,
        tt,
        record {
          tally = record h.tally { next = d + 1 };
          words = words_are;
          slots = h.slots;
          small = h.small;
          tickets = record {
            in_order = omega (arith, h.tickets.in_order);
            out = λ t from below. dite (ℕ_discrete t d) (λ same. ap (λ k. holders k (set s.views id w)) same ∙ holders_one) (λ apart. holders_same t apart ∙ h.tickets.out t from (omega arith));
            past = λ t below. holders_same t (λ same. omega (arith, h.tickets.in_order)) ∙ h.tickets.past t below;
            to_come = λ t from. holders_same t (λ same. omega arith) ∙ h.tickets.to_come t (omega arith);
          };
          turn = record {
            no_other = λ t apart. serves_same t ∙ h.turn.no_other t apart;
            home = λ free. h.turn.home (sym (serves_same h.tally.served) ∙ free);
            away = λ busy. h.turn.away (sym (serves_same h.tally.served) ∙ busy);
          };
          known = record {
            length_is = h.known.length_is;
            admitted = h.known.admitted;
            each = λ j u there seated. ⊎_elim
                (λ (t : (j ≡ id) × (w ≡ u)). subst (KnowsHistory start room h.tally.history h.tally.children h.tally.joined) t.1 (
                let known = h.known.each id v at unspent in
                record { start_is = known.start_is; room_is = known.room_is; seen = known.seen; olds = known.olds; mine = known.mine; own = known.own; main = known.main; turn = λ ticket serving. absurd (cc) }))
                (λ (t : (j ≢ id) × (get_elem? s.views j ≡ some u)). h.known.each j u t.1 seated)
                (at_set s.views id j w u there);
          };
          named = record {
            one_each = λ n within. bearers_as_before n ∙ h.named.one_each n within;
            no_other = λ n beyond. (bearers_as_before n ∙ (h.named.no_other n beyond).0, (h.named.no_other n beyond).1);
            ended = h.named.ended;
          };
          sums = record {
            seats = seats_same start room s h id v at unspent w refl refl;
            lengths = lengths_same start room s h id v at unspent w refl refl refl;
            places = omega (arith, left_change, h.sums.places, some_left, mine_left);
          };
        },
        refl,
      )

  -- The same, of any seat that is idle.
  pub draws_empty : (slots id : ℕ) (me : Me (Option (VaultOf m)) (View S O)) → me.0.stage ≡ Idle → 0 < me.0.left
      → Allows (Orderly start room) slots id me 0 (λ n. (n + 1) % 2 ^ 64) (λ n after. after ≡ (drawn n me.0, me.1))
  draws_empty slots id me idle some_left = draws_ticket slots id me.0 me.1 idle some_left
