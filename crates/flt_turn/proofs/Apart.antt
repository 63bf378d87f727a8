-- Seats have numbers of their own, and a step that keeps them keeps how many seats there are.
use Rattle.std.proofs.Common.{◌≡◌, ◌≢◌, ℕ, ◌+◌, ◌≤◌, Option, length, set, false, cond, not, ◌&&◌, eqb, eq-eqb, refl, sym, ap, ◌∙◌, arith, lt_of_not-le}
use mathlib.Core.Logic.{dite}
use mathlib.Core.Option.{some}
use native.Mathlib.Decide.{dec_le}
use lib.ListN.{get_elem?}
use Rattle.atomic_table.specs.Table.{State}
use Rattle.flt_turn.specs.declared.machine.Machine.{Ghosts}
use Rattle.flt_turn.specs.declared.view.View.{View}
use Rattle.flt_turn.specs.Order.{bearers, Orderly}
use Rattle.flt_turn.specs.Sums.{total, one_if}
use Rattle.flt_turn.specs.Vaults.{VaultOf}
use Rattle.flt_turn.specs.Views.{is_spent, sits, present, calls_made}
use Rattle.flt_turn.proofs.Totals.{total-same, one_le, two_le}

module _ {M S O : Type 0} {m : Ghosts M S O} (start : S) (room : ℕ)
    (s : State (Option (VaultOf m)) (View S O)) (h : Orderly start room s) (id : ℕ) (v : View S O) (at : get_elem? s.views id ≡ some v) (unspent : is_spent v.stage ≡ false) where
  sits_here : sits v.number v ≡ 1
  sits_here = ap (λ b. one_if (not b && eqb v.number v.number)) unspent ∙ ap one_if (eq-eqb v.number v.number refl)

  pub sitting_here : 1 ≤ total (sits v.number) s.views
  sitting_here = let here = one_le (sits v.number) s.views id v at in omega (arith, here, sits_here)

  pub is_child : v.number ≤ h.tally.children
  is_child = dite (dec_le v.number h.tally.children) (λ le. le) (λ over. let none_there = (h.named.no_other v.number (lt_of_not-le over)).0 in let here = sitting_here in absurd (omega arith))

  pub one_bearer : bearers v.number s.views h.tally.joined ≡ 1
  one_bearer = h.named.one_each v.number is_child

  -- Another seat has another number.
  pub others_number : (j : ℕ) (u : View S O) → j ≢ id → get_elem? s.views j ≡ some u → is_spent u.stage ≡ false → v.number ≢ u.number
  others_number j u apart there seated same =
      let both = two_le (sits v.number) s.views id j v u apart at there in
      let theirs : sits v.number u ≡ 1 = ap (λ b. one_if (not b && eqb u.number v.number)) seated ∙ ap one_if (eq-eqb u.number v.number (sym same)) in
      omega (arith, both, theirs, sits_here, one_bearer)

  -- A step after which the seat has its number as before.
  module _ (w : View S O) (number_is : w.number ≡ v.number) (seated : is_spent w.stage ≡ false) where
    as_spent : is_spent w.stage ≡ is_spent v.stage
    as_spent = seated ∙ sym unspent

    pub bearers_same : (n : ℕ) → bearers n (set s.views id w) h.tally.joined ≡ bearers n s.views h.tally.joined
    bearers_same n =
        let same : total (sits n) (set s.views id w) ≡ total (sits n) s.views = total-same (sits n) s.views id v w at (λ i. one_if (not (as_spent i) && eqb (number_is i) n)) in
        omega (arith, same)

    pub seats_same : total present (set s.views id w) + length h.tally.joined ≡ h.tally.children + 1
    seats_same = let same = total-same present s.views id v w at (ap (λ b. one_if (not b)) as_spent) in let p = h.sums.seats in omega arith

    -- And its calls.
    pub lengths_same : w.mine ≡ v.mine → total calls_made (set s.views id w) + total (λ seat. length seat.1) h.tally.joined ≡ h.tally.served
    lengths_same mine_is = let same = total-same calls_made s.views id v w at (λ i. cond (as_spent i) 0 (length (mine_is i))) in let p = h.sums.lengths in omega arith
