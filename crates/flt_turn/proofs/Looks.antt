-- A look keeps the rule. Where it is the seat's turn the vault is at home, and goes out with the seat.
use Rattle.std.proofs.Common.{◌≡◌, ◌≢◌, ℕ, ◌+◌, ◌<◌, ◌≤◌, List, [], ◌∷◌, All, length, set, get_or, length-set, Option, Some, false, eqb, eq-eqb, ne_eqb, refl, sym, ap, ◌∙◌, subst, ⊎_elim, arith, lt_of_not-le, le_refl}
use mathlib.Core.List.{IsPrefix, append-nil}
use mathlib.Core.Logic.{dite}
use mathlib.Core.Option.{some, none}
use native.Mathlib.Decide.{ℕ_discrete}
use lib.ListN.{get_elem?}
use lib.Seq.{set-get_or}
use Rattle.atomic_table.specs.Table.{State, Me, Step, stepped, keeps, takes, Allows}
use Rattle.atomic_table.proofs.Lists.{at_set, set_again, set_here}
use Rattle.flt_turn.specs.declared.machine.Machine.{Ghosts}
use Rattle.flt_turn.specs.declared.vault.Entry.{Entry}
use Rattle.flt_turn.specs.declared.view.Stage.TheVariants.{Waiting}
use Rattle.flt_turn.specs.declared.view.View.{View}
use Rattle.flt_turn.specs.Journal.{calls_of}
use Rattle.flt_turn.specs.Order.{holders, KnowsHistory, IsHome, Orderly}
use Rattle.flt_turn.specs.Plays.{IsTakenOut, looks}
use Rattle.flt_turn.specs.Sums.{total, one_if}
use Rattle.flt_turn.specs.Vaults.{VaultOf, journal_of}
use Rattle.flt_turn.specs.Views.{waits_at, serves_at, ticket_of, is_spent, waits, serves, left_of, turned}
use Rattle.flt_turn.proofs.Apart.{bearers_same, seats_same, lengths_same}
use Rattle.flt_turn.proofs.Totals.{total-set, total-same, one_le}

module _ {M S O : Type 0} {m : Ghosts M S O} (start : S) (room : ℕ) where
  abbrev Found : ℕ → View S O → VaultOf m → Type 0
  Found = IsTakenOut

  -- A look that changes nothing.
  unchanged : (s : State (Option (VaultOf m)) (View S O)) (id : ℕ) (v : View S O) (held : List (ℕ × Option (VaultOf m))) → Orderly start room s → get_elem? s.views id ≡ some v
      → Orderly start room (stepped s 1 (get_or s.words 1 0) id held v keeps)
  unchanged s id v held h at = subst (λ (x : List ℕ × List (View S O)). Orderly start room record { words = x.0; homes = s.homes; views = x.1 })
      (λ i. (sym (set-get_or s.words 1 0) i, sym (set_again s.views id v at) i)) h

  module _ (s : State (Option (VaultOf m)) (View S O)) (h : Orderly start room s) (id : ℕ) (v : View S O) (at : get_elem? s.views id ≡ some v) (ticket : ℕ) (waiting : v.stage ≡ Waiting ticket) (now : h.tally.served ≡ ticket) where
    unspent : is_spent v.stage ≡ false
    unspent = ap is_spent waiting

    known : KnowsHistory start room h.tally.history h.tally.children h.tally.joined v
    known = h.known.each id v at unspent

    one : (t : ℕ) → t ≡ ticket → one_if (eqb ticket t) ≡ 1
    one t same = ap one_if (eq-eqb ticket t (sym same))

    waits_here : waits h.tally.served v ≡ 1
    waits_here = ap (waits_at h.tally.served) waiting ∙ one h.tally.served now

    waiting_here : 1 ≤ total (waits h.tally.served) s.views
    waiting_here = let here = one_le (waits h.tally.served) s.views id v at in omega (arith, here, waits_here)

    is_out : h.tally.served < h.tally.next
    is_out = lt_of_not-le (λ over. let none_there = h.tickets.to_come h.tally.served over in omega (arith, none_there, waiting_here))

    free : total (serves h.tally.served) s.views ≡ 0
    free = let here = h.tickets.out h.tally.served (le_refl h.tally.served) is_out in omega (arith, here, waiting_here)

    at_home : IsHome start room h.tally.history s.homes
    at_home = h.turn.home free

    found_of : (home : IsHome start room h.tally.history s.homes) → Found ticket v home.vault
    found_of home =
        let k = known in
        let is = home.journal_is in
        let long : length (journal_of home.vault) ≡ h.tally.served = ap length is ∙ h.known.length_is in
        let places = h.sums.places in
        let out = is_out in
        let room_is = k.room_is in
        let roomy = home.roomy in
        record {
          start_is = home.start_is ∙ sym k.start_is;
          roomy = (omega arith, omega arith);
          small = let limit = h.small in omega arith;
          place = long ∙ now;
          seen = subst (λ l. IsPrefix v.seen l) (sym is) k.seen;
          olds = subst (λ l. All (λ old. IsPrefix old l) v.olds) (sym is) k.olds;
          mine = ap (calls_of v.number) is ∙ k.mine;
          own = k.own;
          admitted = subst (λ (x : S × List (Entry O)). All (λ e. m.admits x.0 e.op) x.1) (λ i. (sym k.start_is i, sym is i)) h.known.admitted;
        }

    found : Found ticket v at_home.vault
    found = found_of at_home

    abbrev w : View S O
    w = turned ticket (journal_of at_home.vault) v

    waits_less : (t : ℕ) → total (waits t) (set s.views id w) + one_if (eqb ticket t) ≡ total (waits t) s.views
    waits_less t = let change = total-set (waits t) s.views id v w at in let before : waits t v ≡ one_if (eqb ticket t) = ap (waits_at t) waiting in omega (arith, change, before)

    serves_more : (t : ℕ) → total (serves t) (set s.views id w) ≡ total (serves t) s.views + one_if (eqb ticket t)
    serves_more t = let change = total-set (serves t) s.views id v w at in let before : serves t v ≡ 0 = ap (serves_at t) waiting in omega (arith, change, before)

    holders_same : (t : ℕ) → holders t (set s.views id w) ≡ holders t s.views
    holders_same t = omega (arith, waits_less t, serves_more t)

    busy : total (serves h.tally.served) (set s.views id w) ≡ 1
    busy = omega (arith, serves_more h.tally.served, one h.tally.served now, free)

    serves_other : (t : ℕ) → t ≢ h.tally.served → total (serves t) (set s.views id w) ≡ total (serves t) s.views
    serves_other t apart = let no : one_if (eqb ticket t) ≡ 0 = ap one_if (ne_eqb ticket t (λ same. apart (sym (now ∙ same)))) in omega (arith, serves_more t, no)

    now_known : KnowsHistory start room h.tally.history h.tally.children h.tally.joined w
    now_known = let k = known in let is = at_home.journal_is in record {
      start_is = k.start_is;
      room_is = k.room_is;
      seen = ([], append-nil _ ∙ is);
      olds = k.olds;
      mine = k.mine;
      own = ap (calls_of v.number) is ∙ k.mine;
      main = k.main;
      turn = λ t serving. is;
    }

    taken : Orderly start room (stepped s 1 (get_or s.words 1 0) id [] w (takes 0 (Some at_home.vault)))
    taken = subst (λ (ws : List ℕ). Orderly start room record { words = ws; homes = set s.homes 0 none; views = set s.views id w }) (sym (set-get_or s.words 1 0)) record {
      tally = h.tally;
      words = h.words;
      slots = length-set s.homes 0 none ∙ h.slots;
      small = h.small;
      tickets = record {
        in_order = h.tickets.in_order;
        out = λ t from below. holders_same t ∙ h.tickets.out t from below;
        past = λ t below. holders_same t ∙ h.tickets.past t below;
        to_come = λ t from. holders_same t ∙ h.tickets.to_come t from;
      };
      turn = record {
        no_other = λ t apart. serves_other t apart ∙ h.turn.no_other t apart;
        home = λ no_turn. let b = busy in absurd (omega arith);
        away = λ _. let deep = h.slots in set_here s.homes 0 none (omega arith);
      };
      known = record {
        length_is = h.known.length_is;
        admitted = h.known.admitted;
        each = λ j u there seated. ⊎_elim
            (λ (t : (j ≡ id) × (w ≡ u)). subst (KnowsHistory start room h.tally.history h.tally.children h.tally.joined) t.1 now_known)
            (λ (t : (j ≢ id) × (get_elem? s.views j ≡ some u)). h.known.each j u t.1 seated)
            (at_set s.views id j w u there);
      };
      named = record {
        one_each = λ n within. bearers_same start room s h id v at unspent w refl refl n ∙ h.named.one_each n within;
        no_other = λ n beyond. (bearers_same start room s h id v at unspent w refl refl n ∙ (h.named.no_other n beyond).0, (h.named.no_other n beyond).1);
        ended = h.named.ended;
      };
      sums = record {
        seats = seats_same start room s h id v at unspent w refl refl;
        lengths = lengths_same start room s h id v at unspent w refl refl refl;
        places = let change = total-same left_of s.views id v w at refl in let p = h.sums.places in omega arith;
      };
    }

  pub looks_at_served : (slots id : ℕ) (v : View S O) (st : Step (Option (VaultOf m))) (ticket : ℕ) → v.stage ≡ Waiting ticket
      → Allows (Orderly start room) slots id (v, []) 1 (λ n. n) (looks st (v, []))
  looks_at_served slots id v st ticket waiting s h deep at _ =
      let served : get_or s.words 1 0 ≡ h.tally.served = ap (λ ws. get_or ws 1 0) h.words in
      let same_ticket : (t : ℕ) → v.stage ≡ Waiting t → ticket ≡ t = λ t is. ap ticket_of (sym waiting ∙ is) in
      dite (ℕ_discrete h.tally.served ticket)
      (λ now. let home = at_home s h id v at ticket waiting now in (
        turned ticket (journal_of home.vault) v,
        takes 0 (Some home.vault),
        home.there,
        taken s h id v at ticket waiting now,
        λ t is. (
          (λ other. absurd (other (served ∙ now ∙ same_ticket t is))),
          (λ _. (
            home.vault,
            ap (λ k. (turned k (journal_of home.vault) v, (0, Some home.vault) ∷ [])) (same_ticket t is),
            subst (λ k. Found k v home.vault) (same_ticket t is) (found s h id v at ticket waiting now),
          )),
        ),
      ))
      (λ other. (
        v,
        keeps,
        tt,
        unchanged s id v [] h at,
        λ t is. ((λ _. refl), (λ same. absurd (other (sym served ∙ same ∙ sym (same_ticket t is))))),
      ))

  -- The same, of a seat that holds no slot.
  pub looks_empty : (slots id : ℕ) (me : Me (Option (VaultOf m)) (View S O)) (st : Step (Option (VaultOf m))) (ticket : ℕ) → me.1 ≡ [] → me.0.stage ≡ Waiting ticket
      → Allows (Orderly start room) slots id me 1 (λ n. n) (looks st me)
  looks_empty slots id me st ticket empty waiting =
      subst (λ (held : List (ℕ × Option (VaultOf m))). Allows (Orderly start room) slots id (me.0, held) 1 (λ n. n) (looks st (me.0, held))) (sym empty) (looks_at_served slots id me.0 st ticket waiting)
