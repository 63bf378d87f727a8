-- A seat that is joined into the main seat keeps the rule.
use Rattle.std.proofs.Common.{◌≡◌, ◌≢◌, ℕ, ◌+◌, List, [], ◌∷◌, ◌++◌, length, set, length-append, Option, true, false, true≢false, cond, not, ◌&&◌, eqb, refl, sym, ap, ◌∙◌, subst, ⊎_elim, arith}
use Rattle.std.proofs.lemmas.List.Elements.{All-push}
use mathlib.Core.List.{IsPrefix}
use mathlib.Core.Option.{some}
use lib.ListN.{get_elem?}
use lib.Seq.{set-get_or}
use Rattle.atomic_table.specs.Table.{State, Me, Step, Joins, keeps, Allows}
use Rattle.atomic_table.proofs.Lists.{at_set, set_else, set_again}
use Rattle.flt_turn.specs.declared.machine.Machine.{Ghosts}
use Rattle.flt_turn.specs.declared.view.Stage.TheVariants.{Idle}
use Rattle.flt_turn.specs.declared.view.View.{View}
use Rattle.flt_turn.specs.Journal.{calls_of}
use Rattle.flt_turn.specs.Order.{holders, bearers, KnowsHistory, Orderly}
use Rattle.flt_turn.specs.Plays.{counts}
use Rattle.flt_turn.specs.Sums.{total, one_if}
use Rattle.flt_turn.specs.Vaults.{VaultOf}
use Rattle.flt_turn.specs.Views.{waits_at, serves_at, is_spent, waits, serves, sits, left_of, present, calls_made, joined_with, spent}
use Rattle.flt_turn.proofs.Apart.{others_number}
use Rattle.flt_turn.proofs.Totals.{total-append, total-set, total-same, one_le}

module _ {M S O : Type 0} {m : Ghosts M S O} (start : S) (room : ℕ) where
  module _ (s : State (Option (VaultOf m)) (View S O)) (h : Orderly start room s) (some_start : S) (id other : ℕ) (v w : View S O) (at : get_elem? s.views id ≡ some v) (apart : other ≢ id) (there : get_elem? (set s.views id (joined_with v w)) other ≡ some w)
      (idle : v.stage ≡ Idle) (idle' : w.stage ≡ Idle) (main : v.number ≡ 0) where
    abbrev both : View S O
    both = joined_with v w

    abbrev gone : View S O
    gone = spent some_start

    abbrev views : List (View S O)
    views = set (set s.views id both) other gone

    abbrev joined : List (ℕ × List O)
    joined = h.tally.joined ++ (w.number, w.mine) ∷ []

    was_there : get_elem? s.views other ≡ some w
    was_there = sym (set_else s.views id other both apart) ∙ there

    unspent : is_spent v.stage ≡ false
    unspent = ap is_spent idle

    unspent' : is_spent w.stage ≡ false
    unspent' = ap is_spent idle'

    known : KnowsHistory start room h.tally.history h.tally.children h.tally.joined v
    known = h.known.each id v at unspent

    known' : KnowsHistory start room h.tally.history h.tally.children h.tally.joined w
    known' = h.known.each other w was_there unspent'

    falls : (f : View S O → ℕ) → f both ≡ f v → total f views + f w ≡ total f s.views + f gone
    falls f same = let first = total-same f s.views id v both at same in let second = total-set f (set s.views id both) other w gone there in omega (arith, first, second)

    holders_same : (t : ℕ) → holders t views ≡ holders t s.views
    holders_same t =
        let a = falls (waits t) refl in
        let b = falls (serves t) refl in
        let none : waits t w ≡ 0 = ap (waits_at t) idle' in
        let none' : serves t w ≡ 0 = ap (serves_at t) idle' in
        omega (arith, a, b, none, none')

    serves_same : (t : ℕ) → total (serves t) views ≡ total (serves t) s.views
    serves_same t = let b = falls (serves t) refl in let none' : serves t w ≡ 0 = ap (serves_at t) idle' in omega (arith, b, none')

    bearers_same : (n : ℕ) → bearers n views joined ≡ bearers n s.views h.tally.joined
    bearers_same n =
        let a = falls (sits n) refl in
        let his : sits n w ≡ one_if (eqb w.number n) = ap (λ b. one_if (not b && eqb w.number n)) unspent' in
        let more = total-append (λ (seat : ℕ × List O). one_if (eqb seat.0 n)) h.tally.joined ((w.number, w.mine) ∷ []) in
        omega (arith, a, his, more)

    both_known : KnowsHistory start room h.tally.history h.tally.children joined both
    both_known = let k = known in let of_main = k.main main in record {
      start_is = k.start_is;
      room_is = k.room_is;
      seen = k.seen;
      olds = All-push (λ old. IsPrefix old h.tally.history) v.olds w.seen k.olds known'.seen;
      mine = k.mine;
      own = k.own;
      main = λ _. (of_main.0, ap (λ l. l ++ (w.number, w.mine) ∷ []) of_main.1);
      turn = k.turn;
    }

    others_known : (j : ℕ) (u : View S O) → j ≢ id → get_elem? s.views j ≡ some u → is_spent u.stage ≡ false → KnowsHistory start room h.tally.history h.tally.children joined u
    others_known j u away at_j seated = let k = h.known.each j u at_j seated in record {
      start_is = k.start_is;
      room_is = k.room_is;
      seen = k.seen;
      olds = k.olds;
      mine = k.mine;
      own = k.own;
      main = λ is_main. absurd (others_number start room s h id v at unspent j u away at_j seated (main ∙ sym is_main));
      turn = k.turn;
    }

    merged : Orderly start room record { words = s.words; homes = s.homes; views = views }
    merged = record {
      tally = record h.tally { joined = joined };
      words = h.words;
      slots = h.slots;
      small = h.small;
      tickets = record {
        in_order = h.tickets.in_order;
        out = λ t from below. holders_same t ∙ h.tickets.out t from below;
        past = λ t below. holders_same t ∙ h.tickets.past t below;
        to_come = λ t from. holders_same t ∙ h.tickets.to_come t from;
      };
      turn = record {
        no_other = λ t away. serves_same t ∙ h.turn.no_other t away;
        home = λ free. h.turn.home (sym (serves_same h.tally.served) ∙ free);
        away = λ busy. h.turn.away (sym (serves_same h.tally.served) ∙ busy);
      };
      known = record {
        length_is = h.known.length_is;
        admitted = h.known.admitted;
        each = λ j u at_j seated. ⊎_elim
            (λ (t : (j ≡ other) × (gone ≡ u)). absurd (was_spent (ap (λ (x : View S O). is_spent x.stage) t.1 ∙ seated)))
            (λ (t : (j ≢ other) × (get_elem? (set s.views id both) j ≡ some u)). ⊎_elim
            (λ (t' : (j ≡ id) × (both ≡ u)). subst (KnowsHistory start room h.tally.history h.tally.children joined) t'.1 both_known)
            (λ (t' : (j ≢ id) × (get_elem? s.views j ≡ some u)). others_known j u t'.0 t'.1 seated)
            (at_set s.views id j both u t.1))
            (at_set (set s.views id both) other j gone u at_j);
      };
      named = record {
        one_each = λ n within. bearers_same n ∙ h.named.one_each n within;
        no_other = λ n beyond. (bearers_same n ∙ (h.named.no_other n beyond).0, (h.named.no_other n beyond).1);
        ended = All-push (λ seat. calls_of seat.0 h.tally.history ≡ seat.1) h.tally.joined (w.number, w.mine) h.named.ended known'.mine;
      };
      sums = record {
        seats =
            let a = falls present refl in
            let his : present w ≡ 1 = ap (λ b. one_if (not b)) unspent' in
            let more = length-append h.tally.joined ((w.number, w.mine) ∷ []) in
            let p = h.sums.seats in
            omega arith;
        lengths =
            let a = falls calls_made refl in
            let his : calls_made w ≡ length w.mine = ap (λ b. cond b 0 (length w.mine)) unspent' in
            let more = total-append (λ (seat : ℕ × List O). length seat.1) h.tally.joined ((w.number, w.mine) ∷ []) in
            let p = h.sums.lengths in
            omega arith;
        places =
            let first = total-set left_of s.views id v both at in
            let second = total-set left_of (set s.views id both) other w gone there in
            let p = h.sums.places in
            omega arith;
      };
    }
      where
        was_spent : true ≡ false → ⊥
        was_spent e = true≢false e

  pub joins : (some_start : S) (id other : ℕ) (v w : View S O) → v.stage ≡ Idle → w.stage ≡ Idle → v.number ≡ 0 → Joins (Orderly {m = m} start room) id v other w (joined_with v w) (spent some_start)
  joins some_start id other v w idle idle' main s h at apart there = merged s h some_start id other v w at apart there idle idle' main

  -- A load from which the main seat learns that its counts are small.
  pub counts_seats : (slots id : ℕ) (me : Me (Option (VaultOf m)) (View S O)) (st : Step (Option (VaultOf m))) → me.0.stage ≡ Idle → Allows (Orderly start room) slots id me 0 (λ n. n) (counts st me)
  counts_seats slots id me st idle s h deep at _ =
      let v : View S O = me.0 in
      let known = h.known.each id v at (ap is_spent idle) in
      let here = one_le left_of s.views id v at in
      let seat_here = one_le present s.views id v at in
      let counted : present v ≡ 1 = ap (λ x. one_if (not (is_spent x))) idle in (
        v,
        keeps,
        tt,
        subst (λ (x : List ℕ × List (View S O)). Orderly start room record { words = x.0; homes = s.homes; views = x.1 }) (λ i. (sym (set-get_or s.words 0 0) i, sym (set_again s.views id v at) i)) h,
        (
          refl,
          omega (arith, here, h.sums.places, h.small),
          λ main.
              let of_main = known.main main in
              let long = ap length of_main.1 in
              let count_is = of_main.0 in
              let p = h.sums.seats in
              omega arith,
        ),
      )
