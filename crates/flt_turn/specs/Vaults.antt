-- What the rule of a lock reads of a vault. `m` has the ghost members of the machine in it.
use Rattle.std.specs.Prelude.{◌≡◌, ℕ, List, [], ◌∷◌, ◌++◌}
use Rattle.std.specs.Vec.{vec_capacity}
use Rattle.flt_turn.specs.declared.machine.Machine.{Ghosts}
use Rattle.flt_turn.specs.declared.vault.Entry.{Entry}
use Rattle.flt_turn.specs.declared.vault.Vault.{Vault}
use Rattle.flt_turn.specs.Journal.{entry}

-- The vaults of the machines with these members.
abbrev pub VaultOf : {M S O : Type 0} → Ghosts M S O → Type 0
VaultOf {M} {S} {O} m = Vault M S O m

module _ {M S O : Type 0} {m : Ghosts M S O} where
  -- The operations that its machine took, in order, each with the number of its seat.
  abbrev pub journal_of : VaultOf m → List (Entry O)
  journal_of vault = vault.journal.items

  -- The start of its machine.
  abbrev pub start_of : VaultOf m → S
  start_of vault = m.start vault.machine

  -- The number of entries that its journal has room for.
  abbrev pub room_of : VaultOf m → ℕ
  room_of vault = vec_capacity vault.journal

  -- The machine of a vault made one more step: this operation, which the seat of this number asked for.
  pub record TakesCall (number : ℕ) (op : O) (before after : VaultOf m) : Type 0 where
    -- The operation is the last of the journal.
    pub journal : journal_of after ≡ journal_of before ++ entry number op ∷ []
    -- No memory was taken for it.
    pub room : room_of after ≡ room_of before
    -- The start of the machine is the same.
    pub start : start_of after ≡ start_of before
