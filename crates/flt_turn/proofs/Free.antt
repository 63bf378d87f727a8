-- What a free lock holds.
use Rattle.std.proofs.Common.{ℕ, [], ◌∷◌, length, sym, ap, ◌∙◌, subst}
use Rattle.std.proofs.Math.Logic.{∥∥₁_map}
use Rattle.std.specs.Prelude.{Option}
use Rattle.atomic_table.specs.Table.{State}
use Rattle.flt_turn.specs.declared.machine.Machine.{Ghosts}
use Rattle.flt_turn.specs.declared.view.View.{View}
use Rattle.flt_turn.specs.Journal.{ops_of, calls_of}
use Rattle.flt_turn.specs.Order.{IsHome, Orderly}
use Rattle.flt_turn.specs.Vaults.{VaultOf, journal_of}
use Rattle.flt_turn.specs.Laws.{IsFree, HoldsReplay}

module _ {M S O : Type 0} (m : Ghosts M S O) (start : S) (room : ℕ) (s : State (Option (VaultOf m)) (View S O)) (h : Orderly start room s) where
  holds_home : IsHome start room h.tally.history s.homes → HoldsReplay m start s
  holds_home home = record {
    vault = home.vault;
    there = home.there;
    replay = ∥∥₁_map home.vault.stands (λ stood. subst (λ begun. m.stands_for home.vault.machine begun (ops_of (journal_of home.vault))) home.start_is stood);
    next = h.tally.next;
    served = h.words ∙ ap (λ count. h.tally.next ∷ count ∷ []) (sym h.known.length_is ∙ ap length (sym home.journal_is));
    mine = λ j v at calls. ap (calls_of v.number) home.journal_is ∙ (h.known.each j v at calls).mine;
  }

  pub holds_replay : IsFree m s → HoldsReplay m start s
  holds_replay free = holds_home (h.turn.home (free h.tally.served))
