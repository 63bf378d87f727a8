-- What each step of a lock lets the seat that makes it know: of the step, the seat before, the number found and the seat after.
use Rattle.std.specs.Prelude.{◌≡◌, ◌≢◌, ℕ, ◌<◌, ◌≤◌, ◌^◌, [], ◌∷◌, ◌++◌, length, All, Option, Some}
use mathlib.Core.List.{IsPrefix}
use Rattle.atomic_table.specs.Table.{Me, Step}
use Rattle.flt_turn.specs.declared.machine.Machine.{Ghosts}
use Rattle.flt_turn.specs.declared.view.Stage.TheVariants.{Waiting, Serving}
use Rattle.flt_turn.specs.declared.view.View.{View}
use Rattle.flt_turn.specs.Journal.{entry, calls_of}
use Rattle.flt_turn.specs.Vaults.{VaultOf, journal_of, start_of, room_of}
use Rattle.flt_turn.specs.Views.{drawn, turned, done}

module _ {W S O : Type 0} where
  -- The seat has the ticket that it found.
  abbrev pub draws : Step (Option W) → Me (Option W) (View S O) → ℕ → Me (Option W) (View S O) → Type 0
  draws st before found after = after ≡ (drawn found before.0, before.1)

  -- Nothing changes, and the main seat learns that its counts are small.
  abbrev pub counts : Step (Option W) → Me (Option W) (View S O) → ℕ → Me (Option W) (View S O) → Type 0
  counts st before found after = (after ≡ before) × (before.0.left < 2 ^ 32) × (before.0.number ≡ 0 → length before.0.ended ≤ before.0.children)

module _ {M S O : Type 0} {m : Ghosts M S O} where
  -- The vault that a seat takes out at the turn of this ticket.
  pub record IsTakenOut (ticket : ℕ) (v : View S O) (vault : VaultOf m) : Type 0 where
    -- It began with the seat's start.
    pub start_is : start_of vault ≡ v.start
    -- It has room for one more call.
    pub roomy : (length (journal_of vault) < v.room) × (v.room ≤ room_of vault)
    -- The room for calls fits a word.
    pub small : v.room < 2 ^ 32
    -- Its journal has as many calls as tickets were served before this one.
    pub place : length (journal_of vault) ≡ ticket
    -- What the seat knows is a prefix of its journal.
    pub seen : IsPrefix v.seen (journal_of vault)
    -- So is all that seats knew which it joined.
    pub olds : All (λ old. IsPrefix old (journal_of vault)) v.olds
    -- Its journal has the seat's own calls under the seat's number.
    pub mine : calls_of v.number (journal_of vault) ≡ v.mine
    -- What the seat knows has all of them.
    pub own : calls_of v.number v.seen ≡ v.mine
    -- The machine admits each operation of its journal.
    pub admitted : All (λ e. m.admits v.start e.op) (journal_of vault)

  -- The seat has the turn, and the vault that it will give back has one more call in its journal, which is the seat's.
  pub record IsTurn (v : View S O) (vault : VaultOf m) : Type 0 where
    -- The ticket that is served.
    pub ticket : ℕ
    -- The operation of the call.
    pub op : O
    -- The seat has the turn of this ticket.
    pub stage_is : v.stage ≡ Serving ticket
    -- The journal is what the seat knew and this call.
    pub longer : journal_of vault ≡ v.seen ++ entry v.number op ∷ []
    -- The vault began with the seat's start.
    pub start_is : start_of vault ≡ v.start
    -- Its journal has the room that the seat was promised.
    pub roomy : v.room ≤ room_of vault
    -- The machine admits the operation.
    pub allowed : m.admits v.start op

  -- If its ticket is served, the seat takes the vault out, and knows its journal.
  abbrev pub looks : Step (Option (VaultOf m)) → Me (Option (VaultOf m)) (View S O) → ℕ → Me (Option (VaultOf m)) (View S O) → Type 0
  looks st before found after = (ticket : ℕ) → before.0.stage ≡ Waiting ticket
      → (found ≢ ticket → after ≡ before)
      × (found ≡ ticket → (vault : VaultOf m) × (after ≡ (turned ticket (journal_of vault) before.0, (0, Some vault) ∷ before.1))
      × IsTakenOut ticket before.0 vault)

  -- The seat gives the vault back, with one more call in its journal.
  abbrev pub serves_next : Step (Option (VaultOf m)) → Me (Option (VaultOf m)) (View S O) → ℕ → Me (Option (VaultOf m)) (View S O) → Type 0
  serves_next st before found after = (vault : VaultOf m) (op : O) → before.1 ≡ (0, Some vault) ∷ []
      → journal_of vault ≡ before.0.seen ++ entry before.0.number op ∷ []
      → after ≡ (done (journal_of vault) op before.0, [])
