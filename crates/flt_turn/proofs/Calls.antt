-- A call, put together from its steps.
use Rattle.std.proofs.Common.{◌≡◌, ℕ, ◌+◌, ◌-◌, ◌<◌, List, [], ◌∷◌, ◌++◌, All, Option, length, take, refl, sym, ap, ◌∙◌, subst, arith}
use Rattle.std.proofs.lemmas.List.Elements.{All-push}
use mathlib.Core.List.{IsPrefix}
use lib.Seq.{take_at}
use Rattle.atomic_table.specs.Seated.{TableId}
use Rattle.atomic_table.specs.Table.{Me}
use Rattle.flt_turn.specs.declared.machine.Machine.{Ghosts}
use Rattle.flt_turn.specs.declared.view.View.{View}
use Rattle.flt_turn.specs.Journal.{entry, ops_of, calls_of}
use Rattle.flt_turn.specs.Plays.{IsTakenOut, IsTurn}
use Rattle.flt_turn.specs.Seats.{Seated, seated, Extends, FitsView, ops_before}
use Rattle.flt_turn.specs.Vaults.{VaultOf, journal_of, start_of, room_of}
use Rattle.flt_turn.specs.Views.{drawn, turned, done}
use Rattle.flt_turn.proofs.Journals.{calls_of-append, nothing_more}

module _ {M S O : Type 0} {m : Ghosts M S O} where
  -- The view of a seat that has the turn.
  abbrev pub at_turn : ℕ → VaultOf m → View S O → View S O
  at_turn ticket found v = turned ticket (journal_of found) (drawn ticket v)

  pub has_turn : (ticket : ℕ) (v u : View S O) (found given : VaultOf m) (op : O) → u ≡ at_turn ticket found v → IsTakenOut ticket (drawn ticket v) found
      → journal_of given ≡ journal_of found ++ entry v.number op ∷ [] → start_of given ≡ start_of found → room_of given ≡ room_of found → m.admits v.start op → IsTurn u given
  has_turn ticket v u found given op is f longer start_is room_is allowed = subst (λ x. IsTurn x given) (sym is) record {
    ticket = ticket;
    op = op;
    stage_is = refl;
    longer = longer;
    start_is = start_is ∙ f.start_is;
    roomy = let r = f.roomy.1 in omega arith;
    allowed = allowed;
  }

  -- What a call learns, for a seat that showed this before it, and has this view and these slots after it.
  pub record Called (shown : Seated S O) (lock : TableId) (v : View S O) (after : Me (Option (VaultOf m)) (View S O)) (found given : VaultOf m) (op : O) (ticket : ℕ) : Type 0 where
    pub view : after.0 ≡ done (journal_of given) op (at_turn ticket found v)
    pub empty : after.1 ≡ []
    pub extends : Extends shown (seated lock after.0) op ticket
    pub start_is : start_of found ≡ shown.start
    pub before : ops_of (journal_of found) ≡ ops_before ticket after.0.seen
    pub admitted : All (λ e. m.admits shown.start e.op) after.0.seen

  -- What is counted beside the seat fits its view, with one call less left.
  pub fits_after : {shown : Seated S O} {lock : TableId} {v : View S O} {after : Me (Option (VaultOf m)) (View S O)} {found given : VaultOf m} {op : O} {ticket number left children waiting : ℕ} {held : List (ℕ × Option (VaultOf m))}
      → Called shown lock v after found given op ticket → FitsView v held number left children waiting → FitsView after.0 after.1 number (left - 1) children waiting
  fits_after {waiting = waiting} told known = record {
    idle = ap (λ x. x.stage) told.view;
    empty = told.empty;
    number_is = ap (λ x. x.number) told.view ∙ known.number_is;
    left_is = ap (λ x. x.left) told.view ∙ ap (λ n. n - 1) known.left_is;
    children_is = ap (λ x. x.children) told.view ∙ known.children_is;
    waiting_is = ap (λ x. waiting + length x.ended) told.view ∙ known.waiting_is;
  }

  pub called : (shown : Seated S O) (lock lock' : TableId) (v u : View S O) (after : Me (Option (VaultOf m)) (View S O)) (found given : VaultOf m) (op : O) (ticket number : ℕ) → seated lock v ≡ shown → v.number ≡ number → 0 < v.left
      → u ≡ at_turn ticket found v → IsTakenOut ticket (drawn ticket v) found → journal_of given ≡ journal_of found ++ entry number op ∷ [] → m.admits shown.start op
      → (journal_of given ≡ u.seen ++ entry u.number op ∷ [] → after ≡ (done (journal_of given) op u, [])) → lock' ≡ lock → Called shown lock' v after found given op ticket
  called shown lock lock' v u after found given op ticket number shows number_is some_left turn f longer allowed ends same =
      subst (λ x. Called x lock' v after found given op ticket) shows (subst (λ x. Called (seated lock v) x v after found given op ticket) (sym same) record {
        view = view;
        empty = ap (λ me. me.1) last;
        extends = subst (λ x. Extends (seated lock v) (seated lock x) op ticket) (sym view) extends;
        start_is = f.start_is;
        before = ap ops_of (sym (take_at (journal_of found) _ ticket f.place) ∙ ap (take ticket) seen_is);
        admitted = subst (All (λ e. m.admits v.start e.op)) seen_is (All-push (λ e. m.admits v.start e.op) (journal_of found) (entry v.number op) f.admitted allowed');
      })
    where
      longer' : journal_of given ≡ journal_of found ++ entry v.number op ∷ []
      longer' = longer ∙ ap (λ n. journal_of found ++ entry n op ∷ []) (sym number_is)

      last : after ≡ (done (journal_of given) op u, [])
      last = ends (longer' ∙ ap (λ (x : View S O). x.seen ++ entry x.number op ∷ []) (sym turn))

      view : after.0 ≡ done (journal_of given) op (at_turn ticket found v)
      view = ap (λ me. me.0) last ∙ ap (done (journal_of given) op) turn

      seen_is : journal_of found ++ entry v.number op ∷ [] ≡ after.0.seen
      seen_is = sym longer' ∙ ap (λ (x : View S O). x.seen) (sym view)

      allowed' : m.admits v.start op
      allowed' = subst (λ (x : Seated S O). m.admits x.start op) (sym shows) allowed

      extends : Extends (seated lock v) (seated lock (done (journal_of given) op (at_turn ticket found v))) op ticket
      extends = let all = f.seen.1 in record {
        between = f.seen.0;
        seen = longer' ∙ ap (λ l. l ++ entry v.number op ∷ []) (sym all);
        others = nothing_more (calls_of v.number v.seen) _ (sym (calls_of-append v.number v.seen f.seen.0) ∙ (ap (calls_of v.number) all ∙ (f.mine ∙ sym f.own)));
        place_is = ap length all ∙ f.place;
        olds = subst (λ l. All (λ old. IsPrefix old l) v.olds) (sym all) f.olds;
        own = ap (calls_of v.number) all ∙ f.mine;
        mine = refl;
        left = omega arith;
        lock = refl;
        rest = (refl, refl, refl, refl, refl);
      }
