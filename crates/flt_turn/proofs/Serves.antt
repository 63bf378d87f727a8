-- The end of a turn keeps the rule. The vault comes home with one entry more, which is the seat's.
use Rattle.std.proofs.Common.{◌≡◌, ◌≢◌, ℕ, ◌+◌, ◌%◌, ◌^◌, ◌<◌, ◌≤◌, List, [], ◌∷◌, ◌++◌, All, length, set, get_or, length-set, Option, Some, false, cond, eqb, eq-eqb, ne_eqb, refl, sym, ap, ◌∙◌, subst, ⊎_elim, arith, lt_of_not-le, length-append}
use Rattle.std.proofs.Math.Nat.{mod-eq_of_lt}
use Rattle.std.proofs.lemmas.List.Elements.{All-push}
use mathlib.Core.List.{IsPrefix, append_cancel_left}
use mathlib.Core.Logic.{dite}
use mathlib.Core.Option.{some}
use native.Mathlib.Decide.{ℕ_discrete}
use lib.ListN.{get_elem?}
use Rattle.atomic_table.specs.Table.{State, Me, Step, stepped, gives, Allows}
use Rattle.atomic_table.proofs.Lists.{at_set, set_here}
use Rattle.flt_turn.specs.declared.machine.Machine.{Ghosts}
use Rattle.flt_turn.specs.declared.view.Stage.TheVariants.{Serving}
use Rattle.flt_turn.specs.declared.view.View.{View}
use Rattle.flt_turn.specs.Journal.{entry, calls_of}
use Rattle.flt_turn.specs.Order.{holders, KnowsHistory, Orderly}
use Rattle.flt_turn.specs.Plays.{IsTurn, serves_next}
use Rattle.flt_turn.specs.Sums.{total, one_if}
use Rattle.flt_turn.specs.Vaults.{VaultOf, journal_of, start_of, room_of}
use Rattle.flt_turn.specs.Views.{waits_at, serves_at, is_spent, waits, serves, left_of, calls_made, done}
use Rattle.flt_turn.proofs.Apart.{bearers_same, seats_same, sitting_here, is_child, one_bearer, others_number}
use Rattle.flt_turn.proofs.Journals.{prefix_refl, prefix_longer, olds_longer, at_place, calls_of_own, calls_of_other, op_or}
use Rattle.flt_turn.proofs.Slots.{one_value}
use Rattle.flt_turn.proofs.Totals.{total-set, total-same, one_le, two_le}

module _ {M S O : Type 0} {m : Ghosts M S O} (start : S) (room : ℕ) where
  module _ (s : State (Option (VaultOf m)) (View S O)) (h : Orderly start room s) (id : ℕ) (v : View S O) (at : get_elem? s.views id ≡ some v) (ticket : ℕ) (serving : v.stage ≡ Serving ticket)
      (vault : VaultOf m) (op : O) (longer : journal_of vault ≡ v.seen ++ entry v.number op ∷ []) (start_is : start_of vault ≡ v.start) (roomy : v.room ≤ room_of vault) (allowed : m.admits v.start op) where
    unspent : is_spent v.stage ≡ false
    unspent = ap is_spent serving

    known : KnowsHistory start room h.tally.history h.tally.children h.tally.joined v
    known = h.known.each id v at unspent

    grown : journal_of vault ≡ h.tally.history ++ entry v.number op ∷ []
    grown = longer ∙ ap (λ l. l ++ entry v.number op ∷ []) (known.turn ticket serving)

    serves_here : serves ticket v ≡ 1
    serves_here = ap (serves_at ticket) serving ∙ ap one_if (eq-eqb ticket ticket refl)

    serving_here : 1 ≤ total (serves ticket) s.views
    serving_here = let here = one_le (serves ticket) s.views id v at in omega (arith, here, serves_here)

    now : ticket ≡ h.tally.served
    now = dite (ℕ_discrete ticket h.tally.served) (λ same. same) (λ other. let none_there = h.turn.no_other ticket other in let here = serving_here in absurd (omega arith))

    is_out : ticket < h.tally.next
    is_out = lt_of_not-le (λ over. let none_there = h.tickets.to_come ticket over in omega (arith, none_there, serving_here))

    one_holder : holders ticket s.views ≡ 1
    one_holder = let same = now in h.tickets.out ticket (omega arith) is_out

    abbrev w : View S O
    w = done (journal_of vault) op v

    waits_same : (t : ℕ) → total (waits t) (set s.views id w) ≡ total (waits t) s.views
    waits_same t = total-same (waits t) s.views id v w at (sym (ap (waits_at t) serving))

    serves_less : (t : ℕ) → total (serves t) (set s.views id w) + one_if (eqb ticket t) ≡ total (serves t) s.views
    serves_less t = let change = total-set (serves t) s.views id v w at in let before : serves t v ≡ one_if (eqb ticket t) = ap (serves_at t) serving in omega (arith, change, before)

    serves_other : (t : ℕ) → t ≢ ticket → total (serves t) (set s.views id w) ≡ total (serves t) s.views
    serves_other t apart = let no : one_if (eqb ticket t) ≡ 0 = ap one_if (ne_eqb ticket t (λ same. apart (sym same))) in omega (arith, serves_less t, no)

    serves_none : total (serves ticket) (set s.views id w) ≡ 0
    serves_none = let yes : one_if (eqb ticket ticket) ≡ 1 = ap one_if (eq-eqb ticket ticket refl) in omega (arith, serves_less ticket, yes, one_holder)

    holders_other : (t : ℕ) → t ≢ ticket → holders t (set s.views id w) ≡ holders t s.views
    holders_other t apart = omega (arith, waits_same t, serves_other t apart)

    holders_none : holders ticket (set s.views id w) ≡ 0
    holders_none = omega (arith, waits_same ticket, serves_none, one_holder, serving_here)

    -- No other seat has the turn.
    others_turn : (j : ℕ) (u : View S O) → j ≢ id → get_elem? s.views j ≡ some u → (t : ℕ) → u.stage ≢ Serving t
    others_turn j u apart there t turn =
        let theirs : serves t u ≡ 1 = ap (serves_at t) turn ∙ ap one_if (eq-eqb t t refl) in
        let alone = one_le (serves t) s.views j u there in
        let is : t ≡ ticket = dite (ℕ_discrete t h.tally.served) (λ same. same ∙ sym now) (λ other. let none_there = h.turn.no_other t other in absurd (omega arith)) in
        let theirs' : serves ticket u ≡ 1 = ap (λ k. serves k u) (sym is) ∙ theirs in
        let both = two_le (serves ticket) s.views id j v u apart at there in
        omega (arith, both, theirs', serves_here, one_holder)

    now_known : KnowsHistory start room (journal_of vault) h.tally.children h.tally.joined w
    now_known = let k = known in record {
      start_is = k.start_is;
      room_is = k.room_is;
      seen = prefix_refl (journal_of vault);
      olds = subst (λ l. All (λ old. IsPrefix old l) v.olds) (sym grown) (olds_longer v.olds _ _ k.olds);
      mine = own_journal;
      own = own_journal;
      main = k.main;
      turn = λ t other. absurd (cc);
    }
      where
        own_journal : calls_of v.number (journal_of vault) ≡ v.mine ++ op ∷ []
        own_journal = ap (calls_of v.number) grown ∙ (calls_of_own v.number op h.tally.history ∙ ap (λ l. l ++ op ∷ []) known.mine)

    others_know : (j : ℕ) (u : View S O) → j ≢ id → get_elem? s.views j ≡ some u → is_spent u.stage ≡ false → KnowsHistory start room (journal_of vault) h.tally.children h.tally.joined u
    others_know j u apart there seated = let k = h.known.each j u there seated in record {
      start_is = k.start_is;
      room_is = k.room_is;
      seen = subst (IsPrefix u.seen) (sym grown) (prefix_longer u.seen _ _ k.seen);
      olds = subst (λ l. All (λ old. IsPrefix old l) u.olds) (sym grown) (olds_longer u.olds _ _ k.olds);
      mine = ap (calls_of u.number) grown ∙ (calls_of_other u.number v.number op h.tally.history (others_number start room s h id v at unspent j u apart there seated) ∙ k.mine);
      own = k.own;
      main = k.main;
      turn = λ t turn. absurd (others_turn j u apart there t turn);
    }

    ended_same : All (λ seat. calls_of seat.0 (journal_of vault) ≡ seat.1) h.tally.joined
    ended_same k d below =
        let seat = get_or h.tally.joined k d in
        let counted = one_le (λ (x : ℕ × List O). one_if (eqb x.0 v.number)) h.tally.joined k seat (at_place h.tally.joined k d below) in
        ap (calls_of seat.0) grown ∙ (calls_of_other seat.0 v.number op h.tally.history (λ same.
        let yes : one_if (eqb seat.0 v.number) ≡ 1 = ap one_if (eq-eqb seat.0 v.number (sym same)) in
        omega (arith, counted, yes, one_bearer start room s h id v at unspent, sitting_here start room s h id v at unspent)) ∙ h.named.ended k d below)

    given : Orderly start room (stepped s 1 ((get_or s.words 1 0 + 1) % 2 ^ 64) id ((0, Some vault) ∷ []) w gives)
    given =
        let same = now in
        let below = is_out in
        let found : get_or s.words 1 0 ≡ h.tally.served = ap (λ ws. get_or ws 1 0) h.words in
        let next_is : (get_or s.words 1 0 + 1) % 2 ^ 64 ≡ h.tally.served + 1 = ap (λ n. (n + 1) % 2 ^ 64) found ∙ mod-eq_of_lt (omega (arith, h.sums.places, h.small)) in
        let long = length-append h.tally.history (entry v.number op ∷ []) in
        let ahead = serves_other (h.tally.served + 1) (λ e. omega arith) ∙ h.turn.no_other (h.tally.served + 1) (λ e. omega arith) in
        record {
          tally = record h.tally { served = h.tally.served + 1; history = journal_of vault };
          words = ap (λ ws. set ws 1 ((get_or s.words 1 0 + 1) % 2 ^ 64)) h.words ∙ ap (λ n. h.tally.next ∷ n ∷ []) next_is;
          slots = length-set s.homes 0 (some (Some vault)) ∙ h.slots;
          small = h.small;
          tickets = record {
            in_order = omega arith;
            out = λ t from under. holders_other t (λ e. omega arith) ∙ h.tickets.out t (omega arith) under;
            past = λ t under. dite (ℕ_discrete t ticket) (λ e. ap (λ k. holders k (set s.views id w)) e ∙ holders_none) (λ apart. holders_other t apart ∙ h.tickets.past t (omega arith));
            to_come = λ t from. holders_other t (λ e. omega arith) ∙ h.tickets.to_come t from;
          };
          turn = record {
            no_other = λ t apart. dite (ℕ_discrete t ticket) (λ e. ap (λ k. total (serves k) (set s.views id w)) e ∙ serves_none) (λ other. serves_other t other ∙ h.turn.no_other t (λ e. other (e ∙ sym same)));
            home = λ free. record {
              vault = vault;
              there = let deep = h.slots in set_here s.homes 0 (some (Some vault)) (omega arith);
              journal_is = refl;
              start_is = start_is ∙ known.start_is;
              roomy = let room_is = known.room_is in omega arith;
            };
            away = λ busy. absurd (omega arith);
          };
          known = record {
            length_is = ap length grown ∙ (long ∙ ap (λ n. n + 1) h.known.length_is);
            admitted = subst (All (λ e. m.admits start e.op)) (sym grown) (All-push (λ e. m.admits start e.op) h.tally.history (entry v.number op) h.known.admitted (subst (λ x. m.admits x op) known.start_is allowed));
            each = λ j u there seated. ⊎_elim
                (λ (t : (j ≡ id) × (w ≡ u)). subst (KnowsHistory start room (journal_of vault) h.tally.children h.tally.joined) t.1 now_known)
                (λ (t : (j ≢ id) × (get_elem? s.views j ≡ some u)). others_know j u t.0 t.1 seated)
                (at_set s.views id j w u there);
          };
          named = record {
            one_each = λ n within. bearers_same start room s h id v at unspent w refl refl n ∙ h.named.one_each n within;
            no_other = λ n beyond. (
              bearers_same start room s h id v at unspent w refl refl n ∙ (h.named.no_other n beyond).0,
              ap (calls_of n) grown ∙ (calls_of_other n v.number op h.tally.history (λ e. let child = is_child start room s h id v at unspent in omega arith) ∙ (h.named.no_other n beyond).1),
            );
            ended = ended_same;
          };
          sums = record {
            seats = seats_same start room s h id v at unspent w refl refl;
            lengths =
                let change = total-set calls_made s.views id v w at in
                let before : calls_made v ≡ length v.mine = ap (λ b. cond b 0 (length v.mine)) unspent in
                let more = length-append v.mine (op ∷ []) in
                let p = h.sums.lengths in
                omega arith;
            places = let change = total-same left_of s.views id v w at refl in let p = h.sums.places in omega arith;
          };
        }

  pub serves_turn : (slots id : ℕ) (v : View S O) (st : Step (Option (VaultOf m))) (ticket : ℕ) (vault : VaultOf m) (op : O) → v.stage ≡ Serving ticket → journal_of vault ≡ v.seen ++ entry v.number op ∷ []
      → start_of vault ≡ v.start → v.room ≤ room_of vault → m.admits v.start op
      → Allows (Orderly start room) slots id (v, (0, Some vault) ∷ []) 1 (λ n. (n + 1) % 2 ^ 64) (serves_next st (v, (0, Some vault) ∷ []))
  serves_turn slots id v st ticket vault op serving longer start_is roomy allowed s h deep at _ = (
    done (journal_of vault) op v,
    gives,
    tt,
    given s h id v at ticket serving vault op longer start_is roomy allowed,
    λ vault' op' is longer'.
        let one_journal : journal_of vault ≡ journal_of vault' = ap journal_of (one_value _ [] [] vault vault' refl is) in
        let one_op : op ≡ op' = ap (op_or op) (append_cancel_left v.seen (entry v.number op ∷ []) (entry v.number op' ∷ []) (sym longer ∙ one_journal ∙ longer')) in
        λ i. (done (one_journal i) (one_op i) v, []),
  )

  -- The same, of a seat that holds the vault to give back.
  pub serves_held : (slots id : ℕ) (me : Me (Option (VaultOf m)) (View S O)) (st : Step (Option (VaultOf m))) (v : View S O) (vault : VaultOf m) → me ≡ (v, (0, Some vault) ∷ []) → IsTurn v vault
      → Allows (Orderly start room) slots id me 1 (λ n. (n + 1) % 2 ^ 64) (serves_next st me)
  serves_held slots id me st v vault is turn =
      subst (λ (x : Me (Option (VaultOf m)) (View S O)). Allows (Orderly start room) slots id x 1 (λ n. (n + 1) % 2 ^ 64) (serves_next st x)) (sym is)
      (serves_turn slots id v st turn.ticket vault turn.op turn.stage_is turn.longer turn.start_is turn.roomy turn.allowed)
