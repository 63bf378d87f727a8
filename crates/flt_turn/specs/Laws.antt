-- What follows from the rule of a lock while the lock is free.
use Rattle.std.specs.Prelude.{◌≡◌, ℕ, ◌∷◌, [], length, Option, Some, false}
use mathlib.Core.Option.{some}
use lib.ListN.{get_elem?}
use Rattle.atomic_table.specs.Table.{State}
use Rattle.flt_turn.specs.declared.machine.Machine.{Ghosts}
use Rattle.flt_turn.specs.declared.view.View.{View}
use Rattle.flt_turn.specs.Journal.{ops_of, calls_of}
use Rattle.flt_turn.specs.Order.{Orderly}
use Rattle.flt_turn.specs.Sums.{total}
use Rattle.flt_turn.specs.Vaults.{VaultOf, journal_of}
use Rattle.flt_turn.specs.Views.{serves, is_spent}

module _ {M S O : Type 0} (m : Ghosts M S O) where
  -- No seat has the turn.
  abbrev pub IsFree : State (Option (VaultOf m)) (View S O) → Type 0
  IsFree s = (ticket : ℕ) → total (serves ticket) s.views ≡ 0

  -- The slot has the machine and the journal of all calls that were served, those of each seat that calls in its order; and the
  -- machine stands for the lock's start and the journal's operations.
  pub record HoldsReplay (start : S) (s : State (Option (VaultOf m)) (View S O)) : Type 0 where
    -- The machine with its journal.
    pub vault : VaultOf m
    -- It is in the slot.
    pub there : get_elem? s.homes 0 ≡ some (some (Some vault))
    -- Its machine is in a state that the start and the journal's operations lead to.
    pub replay : ∥ m.stands_for vault.machine start (ops_of (journal_of vault)) ∥₁
    -- The next ticket.
    pub next : ℕ
    -- The lock serves the ticket after the last entry of the journal.
    pub served : s.words ≡ next ∷ length (journal_of vault) ∷ []
    -- Each seat's own calls are those that the journal has under its number.
    pub mine : (j : ℕ) (v : View S O) → get_elem? s.views j ≡ some v → is_spent v.stage ≡ false → calls_of v.number (journal_of vault) ≡ v.mine

  -- At every moment at which a lock is free, the machine under it is the replay of the calls accepted so far.
  abbrev pub FreeLockHoldsReplay : Type 0
  FreeLockHoldsReplay = (start : S) (room : ℕ) (s : State (Option (VaultOf m)) (View S O)) → Orderly start room s → IsFree s → HoldsReplay start s
