-- What a call of a lock learns, whatever machine is under the lock. The machine admits some operations at a start, and answers an
-- operation by its start and the operations before.
use Rattle.std.specs.Prelude.{◌≡◌, ℕ, List, Result, All, IfOk, IfErr, IsErr, reverse}
use mathlib.Core.Logic.{◌↔◌}
use Rattle.flt_turn.specs.declared.answer.Answer.{Answer}
use Rattle.flt_turn.specs.declared.answer.HistoryFull.{HistoryFull}
use Rattle.flt_turn.specs.declared.vault.Entry.{Entry}
use Rattle.flt_turn.specs.Seats.{Seated, Extends, ops_before}

-- The operations before a place, newest first.
abbrev pub past : {O : Type 0} → ℕ → List (Entry O) → List O
past place journal = reverse (ops_before place journal)

-- The whole answer, whose reply is made of its kind and of the rest, which is kept separately.
abbrev pub whole : {K P R : Type 0} → (K → P → R) → Answer K → P → Answer R
whole reply_with told payload = record { place = told.place; reply = reply_with told.reply payload }

-- A call is at the place that its answer gives, and its reply is the machine's after the operations before that place.
pub record IsCall {S O R : Type 0} (admits : S → O → Type 0) (answer : S → List O → O → R) (before after : Seated S O) (op : O) (told : Answer R) : Type 0 where
  -- The call comes after those that the seat knew, at the place of its answer.
  pub place : Extends before after op told.place
  -- The reply is the machine's after the operations before that place.
  pub reply : told.reply ≡ answer before.start (ops_before told.place after.seen) op
  -- The machine admits every operation that the seat knows now.
  pub admitted : All (λ entry. admits before.start entry.op) after.seen

-- The seat had no call left, and nothing was done.
pub record IsRefusal {S O : Type 0} (before after : Seated S O) (op : O) (full : HistoryFull O) : Type 0 where
  -- The operation is given back.
  pub op_is : full.op ≡ op
  -- The seat is as it was.
  pub same : after ≡ before

-- What a call says of its seat, before and after. `IsMade` is what the answer says where the call is made.
pub record Calls {S O A : Type 0} (IsMade : A → Type 0) (before after : Seated S O) (op : O) (result : Result A (HistoryFull O)) : Type 0 where
  -- It is refused if and only if the seat has no call left.
  pub full : IsErr result ↔ (before.left ≡ 0)
  -- A refused call gives the operation back and leaves the seat as it was.
  pub refused : IfErr result (IsRefusal before after op)
  -- A call that is made is answered as the machine promises.
  pub call : IfOk result IsMade
