-- What a seat knows of its lock, and how one call, a split and a join change that.
use Rattle.std.specs.Prelude.{◌≡◌, ℕ, ◌+◌, ◌-◌, List, [], ◌∷◌, ◌++◌, All, length, take}
use mathlib.Core.List.{IsPrefix}
use Rattle.atomic_table.specs.Seated.{TableId}
use Rattle.flt_turn.specs.declared.vault.Entry.{Entry}
use Rattle.flt_turn.specs.declared.view.Stage.TheVariants.{Idle}
use Rattle.flt_turn.specs.declared.view.View.{View}
use Rattle.flt_turn.specs.Journal.{entry, ops_of, calls_of}

-- What contracts see of a seat.
pub record Seated (S O : Type 0) : Type 0 where
  -- The lock that it belongs to.
  pub lock : TableId
  -- Its number, under which the journal has its calls.
  pub number : ℕ
  -- The start of the lock's machine.
  pub start : S
  -- The number of calls that it has left, and of the seats that were split from it.
  pub left : ℕ
  -- The number of the seats that were split from it.
  pub children : ℕ
  -- The prefix of the journal that it knows, and its own operations in it.
  pub seen : List (Entry O)
  -- Its own operations in that prefix.
  pub mine : List O
  -- Prefixes that joined seats knew, and the operations of each joined seat by its number.
  pub olds : List (List (Entry O))
  -- The operations of each joined seat, by its number.
  pub ended : List (ℕ × List O)

-- The lock made the seat.
abbrev pub IsSeatOf : {S O : Type 0} → TableId → Seated S O → Type 0
IsSeatOf lock seat = seat.lock ≡ lock

-- What a seat of this lock shows of its view.
abbrev pub seated : {S O : Type 0} → TableId → View S O → Seated S O
seated lock v = record {
  lock = lock;
  number = v.number;
  start = v.start;
  left = v.left;
  children = v.children;
  seen = v.seen;
  mine = v.mine;
  olds = v.olds;
  ended = v.ended;
}

-- Between two calls a seat holds no slot, and the counts that it keeps are those of its view.
pub record FitsView {H S O : Type 0} (v : View S O) (held : List H) (number left children waiting : ℕ) : Type 0 where
  -- The seat holds no ticket.
  pub idle : v.stage ≡ Idle
  -- It holds no slot.
  pub empty : held ≡ []
  -- Its number is that of its view.
  pub number_is : v.number ≡ number
  -- It has as many calls left as its view.
  pub left_is : v.left ≡ left
  -- As many seats were split from it as its view has.
  pub children_is : v.children ≡ children
  -- The children that it waits for and those that were joined are all its children.
  pub waiting_is : waiting + length v.ended ≡ children

-- The operations before a place in the journal.
abbrev pub ops_before : {O : Type 0} → ℕ → List (Entry O) → List O
ops_before place journal = ops_of (take place journal)

-- One call of a seat, at a place of the journal.
pub record Extends {S O : Type 0} (before after : Seated S O) (op : O) (place : ℕ) : Type 0 where
  -- What other seats did since it last saw the journal.
  pub between : List (Entry O)
  -- The seat knows them now, and its call after them.
  pub seen : after.seen ≡ (before.seen ++ between) ++ entry before.number op ∷ []
  -- None of them is a call of this seat.
  pub others : calls_of before.number between ≡ []
  -- The place is the number of calls before this one.
  pub place_is : length (before.seen ++ between) ≡ place
  -- What joined seats knew is before the call, and there the seat's operations are all that have its number.
  pub olds : All (λ old. IsPrefix old (before.seen ++ between)) before.olds
  -- The calls before it that have the seat's number are the seat's own.
  pub own : calls_of before.number (before.seen ++ between) ≡ before.mine
  -- The operation is the last of the seat's own.
  pub mine : after.mine ≡ before.mine ++ op ∷ []
  -- The seat has one call less left.
  pub left : after.left + 1 ≡ before.left
  -- It is a seat of the same lock.
  pub lock : after.lock ≡ before.lock
  -- Nothing else of the seat is changed.
  pub rest : (after.number ≡ before.number) × (after.start ≡ before.start) × (after.children ≡ before.children) × (after.olds ≡ before.olds)
      × (after.ended ≡ before.ended)

-- A main seat that has made no call.
abbrev pub main_seat : {S O : Type 0} → TableId → S → ℕ → Seated S O
main_seat lock start room = record { lock = lock; number = 0; start = start; left = room; children = 0; seen = []; mine = []; olds = []; ended = [] }

-- The main seat after a seat with these calls was split from it.
abbrev pub split_off : {S O : Type 0} → ℕ → Seated S O → Seated S O
split_off calls main = record main { left = main.left - calls; children = main.children + 1 }

-- And that seat.
abbrev pub split_seat : {S O : Type 0} → ℕ → Seated S O → Seated S O
split_seat calls main = record {
  lock = main.lock;
  number = main.children + 1;
  start = main.start;
  left = calls;
  children = 0;
  seen = main.seen;
  mine = [];
  olds = main.olds;
  ended = [];
}

-- The main seat after another was joined into it.
abbrev pub joined_seat : {S O : Type 0} → Seated S O → Seated S O → Seated S O
joined_seat main other = record main {
  left = main.left + other.left;
  olds = main.olds ++ other.seen ∷ [];
  ended = main.ended ++ (other.number, other.mine) ∷ [];
}
