-- The rule of a lock: what holds of its words, its slot and all views between any two steps. Word 0 is the next ticket, and word 1 the
-- ticket that is served.
use Rattle.std.specs.Prelude.{◌≡◌, ◌≢◌, ℕ, ◌+◌, ◌<◌, ◌≤◌, ◌^◌, List, [], ◌∷◌, length, All, Option, Some, false, ◌==◌}
use mathlib.Core.List.{IsPrefix}
use mathlib.Core.Option.{some, none}
use lib.ListN.{get_elem?}
use Rattle.atomic_table.specs.Table.{State}
use Rattle.flt_turn.specs.declared.machine.Machine.{Ghosts}
use Rattle.flt_turn.specs.declared.vault.Entry.{Entry}
use Rattle.flt_turn.specs.declared.view.Stage.TheVariants.{Serving}
use Rattle.flt_turn.specs.declared.view.View.{View}
use Rattle.flt_turn.specs.Journal.{calls_of}
use Rattle.flt_turn.specs.Sums.{total, one_if}
use Rattle.flt_turn.specs.Vaults.{VaultOf, journal_of, start_of, room_of}
use Rattle.flt_turn.specs.Views.{waits, serves, sits, is_spent, left_of, present, calls_made}

-- What the rule counts with: the next ticket and the one that is served, the journal so far, the number of split seats, and the calls
-- of joined ones.
pub record Tally (O : Type 0) : Type 0 where
  -- The next ticket.
  pub next : ℕ
  -- The ticket that is served.
  pub served : ℕ
  -- The calls that were served.
  pub history : List (Entry O)
  -- The number of seats that were split off.
  pub children : ℕ
  -- The calls of the seats that were joined, by number.
  pub joined : List (ℕ × List O)

module _ {S O : Type 0} where
  -- The number of seats that hold this ticket.
  abbrev pub holders : ℕ → List (View S O) → ℕ
  holders ticket views = total (waits ticket) views + total (serves ticket) views

  -- The number of seats with this number, joined ones included.
  abbrev pub bearers : ℕ → List (View S O) → List (ℕ × List O) → ℕ
  bearers number views joined = total (sits number) views + total (λ seat. one_if (seat.0 == number)) joined

  -- What a seat that was not joined knows of the history.
  pub record KnowsHistory (start : S) (room : ℕ) (history : List (Entry O)) (children : ℕ) (joined : List (ℕ × List O)) (v : View S O) : Type 0 where
    -- It has the start of the lock.
    pub start_is : v.start ≡ start
    -- It has the lock's room for calls.
    pub room_is : v.room ≡ room
    -- What it knows is a prefix of the history.
    pub seen : IsPrefix v.seen history
    -- So is all that seats knew which it joined.
    pub olds : All (λ old. IsPrefix old history) v.olds
    -- The history has its own calls under its number.
    pub mine : calls_of v.number history ≡ v.mine
    -- What it knows has all of them.
    pub own : calls_of v.number v.seen ≡ v.mine
    -- The main seat knows how many seats were split off, and the calls of those that were joined.
    pub main : v.number ≡ 0 → (v.children ≡ children) × (v.ended ≡ joined)
    -- At its turn it knows the whole history.
    pub turn : (ticket : ℕ) → v.stage ≡ Serving ticket → v.seen ≡ history

  -- Each ticket that was drawn and not served is held by one seat, and no other ticket is held.
  pub record TicketsAreOut (t : Tally O) (views : List (View S O)) : Type 0 where
    -- The next ticket is not before the one that is served.
    pub in_order : t.served ≤ t.next
    -- A ticket that was drawn and not served is held by one seat.
    pub out : (ticket : ℕ) → t.served ≤ ticket → ticket < t.next → holders ticket views ≡ 1
    -- No seat holds a ticket that was served.
    pub past : (ticket : ℕ) → ticket < t.served → holders ticket views ≡ 0
    -- No seat holds a ticket that was not drawn.
    pub to_come : (ticket : ℕ) → t.next ≤ ticket → holders ticket views ≡ 0

  -- The history has what was served, all of it admitted, and each seat that was not joined knows a prefix of it.
  pub record HistoryIsKnown (admits : S → O → Type 0) (start : S) (room : ℕ) (t : Tally O) (views : List (View S O)) : Type 0 where
    -- The history has one call a served ticket.
    pub length_is : length t.history ≡ t.served
    -- The machine admits each of its operations.
    pub admitted : All (λ e. admits start e.op) t.history
    -- Each seat that was not joined knows a prefix of it.
    pub each : (j : ℕ) (v : View S O) → get_elem? views j ≡ some v → is_spent v.stage ≡ false → KnowsHistory start room t.history t.children t.joined v

  -- The numbers from 0 to the last child belong to one seat each, and each call to one of these.
  pub record NumbersAreGiven (t : Tally O) (views : List (View S O)) : Type 0 where
    -- Each number to the last child belongs to one seat.
    pub one_each : (number : ℕ) → number ≤ t.children → bearers number views t.joined ≡ 1
    -- A higher number belongs to no seat and has no call.
    pub no_other : (number : ℕ) → t.children < number → (bearers number views t.joined ≡ 0) × (calls_of number t.history ≡ [])
    -- The calls of each joined seat are in the history under its number.
    pub ended : All (λ seat. calls_of seat.0 t.history ≡ seat.1) t.joined

  -- The seats together are the main seat and all that were split from it, their calls add up to what was served, and each place of the
  -- journal is served, or with a ticket, or left to some seat.
  pub record SumsAgree (room : ℕ) (t : Tally O) (views : List (View S O)) : Type 0 where
    -- The seats are the main seat and all that were split off.
    pub seats : total present views + length t.joined ≡ t.children + 1
    -- Their calls add up to what was served.
    pub lengths : total calls_made views + total (λ seat. length seat.1) t.joined ≡ t.served
    -- Each place of the journal was drawn, or is left to one seat.
    pub places : total left_of views + t.next ≡ room

module _ {M S O : Type 0} {m : Ghosts M S O} where
  -- The vault is at home, with the whole history.
  pub record IsHome (start : S) (room : ℕ) (history : List (Entry O)) (homes : List (mathlib.Core.Option.Option (Option (VaultOf m)))) : Type 0 where
    -- The vault.
    pub vault : VaultOf m
    -- It is in the slot.
    pub there : get_elem? homes 0 ≡ some (some (Some vault))
    -- Its journal is the history.
    pub journal_is : journal_of vault ≡ history
    -- It began with the lock's start.
    pub start_is : start_of vault ≡ start
    -- Its journal has room for all calls.
    pub roomy : room ≤ room_of vault

  -- The seat with the ticket that is served has the turn, and the seat with the turn has the vault.
  pub record TurnHasVault (start : S) (room : ℕ) (t : Tally O) (s : State (Option (VaultOf m)) (View S O)) : Type 0 where
    -- No seat has the turn of a ticket that is not served.
    pub no_other : (ticket : ℕ) → ticket ≢ t.served → total (serves ticket) s.views ≡ 0
    -- If no seat has the turn, the vault is at home.
    pub home : total (serves t.served) s.views ≡ 0 → IsHome start room t.history s.homes
    -- If a seat has the turn, the slot is empty.
    pub away : total (serves t.served) s.views ≡ 1 → get_elem? s.homes 0 ≡ some none

  -- The rule of a lock with this start, and with room for this many calls.
  pub record Orderly (start : S) (room : ℕ) (s : State (Option (VaultOf m)) (View S O)) : Type 0 where
    -- What the rule counts with.
    pub tally : Tally O
    -- The lock's two words are the next ticket and the one that is served.
    pub words : s.words ≡ tally.next ∷ tally.served ∷ []
    -- There is one slot.
    pub slots : length s.homes ≡ 1
    -- The room for calls fits a word.
    pub small : room < 2 ^ 32
    -- Each ticket that is due is held by one seat.
    pub tickets : TicketsAreOut tally s.views
    -- The seat that has the turn has the vault.
    pub turn : TurnHasVault start room tally s
    -- Each seat knows a prefix of the history.
    pub known : HistoryIsKnown m.admits start room tally s.views
    -- Each number belongs to one seat.
    pub named : NumbersAreGiven tally s.views
    -- The seats and the calls add up.
    pub sums : SumsAgree room tally s.views
