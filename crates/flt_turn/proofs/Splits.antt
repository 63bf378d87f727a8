-- A seat that is split from the main seat keeps the rule.
use Rattle.std.proofs.Common.{◌≡◌, ◌≢◌, ℕ, ◌+◌, ◌≤◌, List, [], ◌∷◌, ◌++◌, set, false, eqb, eq-eqb, ne_eqb, refl, sym, ap, ◌∙◌, subst, ⊎_elim, arith}
use mathlib.Core.List.{append-eq-nil_iff}
use mathlib.Core.Logic.{dite}
use mathlib.Core.Option.{some}
use native.Mathlib.Decide.{ℕ_discrete}
use lib.ListN.{get_elem?}
use Rattle.atomic_table.specs.Table.{Splits}
use Rattle.atomic_table.proofs.Lists.{at_set, at_snoc}
use Rattle.flt_turn.specs.declared.machine.Machine.{Ghosts}
use Rattle.flt_turn.specs.declared.view.Stage.TheVariants.{Idle}
use Rattle.flt_turn.specs.declared.view.View.{View}
use Rattle.flt_turn.specs.Journal.{calls_of}
use Rattle.flt_turn.specs.Order.{holders, bearers, KnowsHistory, Orderly}
use Rattle.flt_turn.specs.Sums.{total, one_if}
use Rattle.flt_turn.specs.Views.{is_spent, waits, serves, sits, left_of, present, calls_made, parent, child}
use Rattle.flt_turn.proofs.Apart.{others_number}
use Rattle.flt_turn.proofs.Journals.{calls_of-append}
use Rattle.flt_turn.proofs.Totals.{total-append, total-set, total-same}

module _ {M S O : Type 0} {m : Ghosts M S O} (start : S) (room : ℕ) where
  pub splits : (id : ℕ) (v : View S O) (calls : ℕ) → v.stage ≡ Idle → v.number ≡ 0 → calls ≤ v.left → Splits (Orderly {m = m} start room) id v (parent calls v) (child calls v)
  splits id v calls idle main enough s h at =
      let w : View S O = parent calls v in
      let c : View S O = child calls v in
      let views : List (View S O) = set s.views id w ++ c ∷ [] in
      let unspent : is_spent v.stage ≡ false = ap is_spent idle in
      let known = h.known.each id v at unspent in
      let of_main = known.main main in
      let grows : (f : View S O → ℕ) → f w ≡ f v → total f views ≡ total f s.views + f c = λ f same.
      let front = total-same f s.views id v w at same in
      let both = total-append f (set s.views id w) (c ∷ []) in
      omega (arith, front, both) in
      let waits_same : (t : ℕ) → total (waits t) views ≡ total (waits t) s.views = λ t. let e = grows (waits t) refl in omega (arith, e) in
      let serves_same : (t : ℕ) → total (serves t) views ≡ total (serves t) s.views = λ t. let e = grows (serves t) refl in omega (arith, e) in
      let holders_same : (t : ℕ) → holders t views ≡ holders t s.views = λ t. omega (arith, waits_same t, serves_same t) in
      let bearers_more : (n : ℕ) → bearers n views h.tally.joined ≡ bearers n s.views h.tally.joined + one_if (eqb (v.children + 1) n) = λ n. let e = grows (sits n) refl in omega (arith, e) in
      let number_is : v.children + 1 ≡ h.tally.children + 1 = ap (λ n. n + 1) of_main.0 in
      let fresh = h.named.no_other (h.tally.children + 1) (omega arith) in
      let bearers_other : (n : ℕ) → n ≢ h.tally.children + 1 → bearers n views h.tally.joined ≡ bearers n s.views h.tally.joined = λ n apart.
      let none : one_if (eqb (v.children + 1) n) ≡ 0 = ap one_if (ne_eqb (v.children + 1) n (λ same. apart (sym same ∙ number_is))) in
      omega (arith, bearers_more n, none) in
      let bearers_new : bearers (h.tally.children + 1) views h.tally.joined ≡ 1 =
      let one : one_if (eqb (v.children + 1) (h.tally.children + 1)) ≡ 1 = ap one_if (eq-eqb (v.children + 1) (h.tally.children + 1) number_is) in
      omega (arith, bearers_more (h.tally.children + 1), one, fresh.0) in
      let no_calls : calls_of (v.children + 1) h.tally.history ≡ [] = ap (λ n. calls_of n h.tally.history) number_is ∙ fresh.1 in
      let w_known : KnowsHistory start room h.tally.history (h.tally.children + 1) h.tally.joined w = record {
        start_is = known.start_is;
        room_is = known.room_is;
        seen = known.seen;
        olds = known.olds;
        mine = known.mine;
        own = known.own;
        main = λ _. (number_is, of_main.1);
        turn = known.turn;
      } in
      let c_known : KnowsHistory start room h.tally.history (h.tally.children + 1) h.tally.joined c = record {
        start_is = known.start_is;
        room_is = known.room_is;
        seen = known.seen;
        olds = known.olds;
        mine = no_calls;
        own = (append-eq-nil_iff.0 (sym (calls_of-append (v.children + 1) v.seen known.seen.0) ∙ (ap (calls_of (v.children + 1)) known.seen.1 ∙ no_calls))).0;
        main = λ zero_is. absurd (omega arith);
        turn = λ t other. absurd (cc);
      } in
      record {
        tally = record h.tally { children = h.tally.children + 1 };
        words = h.words;
        slots = h.slots;
        small = h.small;
        tickets = record {
          in_order = h.tickets.in_order;
          out = λ t from below. holders_same t ∙ h.tickets.out t from below;
          past = λ t below. holders_same t ∙ h.tickets.past t below;
          to_come = λ t from. holders_same t ∙ h.tickets.to_come t from;
        };
        turn = record {
          no_other = λ t apart. serves_same t ∙ h.turn.no_other t apart;
          home = λ free. h.turn.home (sym (serves_same h.tally.served) ∙ free);
          away = λ busy. h.turn.away (sym (serves_same h.tally.served) ∙ busy);
        };
        known = record {
          length_is = h.known.length_is;
          admitted = h.known.admitted;
          each = λ j u there seated. ⊎_elim
              (λ (was : get_elem? (set s.views id w) j ≡ some u). ⊎_elim
              (λ (t : (j ≡ id) × (w ≡ u)). subst (KnowsHistory start room h.tally.history (h.tally.children + 1) h.tally.joined) t.1 w_known)
              (λ (t : (j ≢ id) × (get_elem? s.views j ≡ some u)). let k = h.known.each j u t.1 seated in record {
                start_is = k.start_is;
                room_is = k.room_is;
                seen = k.seen;
                olds = k.olds;
                mine = k.mine;
                own = k.own;
                main = λ is_main. absurd (others_number start room s h id v at unspent j u t.0 t.1 seated (main ∙ sym is_main));
                turn = k.turn;
              })
              (at_set s.views id j w u was))
              (λ (new : c ≡ u). subst (KnowsHistory start room h.tally.history (h.tally.children + 1) h.tally.joined) new c_known)
              (at_snoc (set s.views id w) c u j there);
        };
        named = record {
          one_each = λ n within. dite (ℕ_discrete n (h.tally.children + 1)) (λ same. ap (λ k. bearers k views h.tally.joined) same ∙ bearers_new) (λ apart. bearers_other n apart ∙ h.named.one_each n (omega arith));
          no_other = λ n beyond. let before = h.named.no_other n (omega arith) in (bearers_other n (λ same. omega arith) ∙ before.0, before.1);
          ended = h.named.ended;
        };
        sums = record {
          seats =
              let e = grows present refl in
              let p = h.sums.seats in
              omega arith;
          lengths =
              let e = grows calls_made refl in
              let p = h.sums.lengths in
              omega arith;
          places =
              let change = total-set left_of s.views id v w at in
              let both = total-append left_of (set s.views id w) (c ∷ []) in
              let p = h.sums.places in
              omega (arith, enough);
        };
      }
