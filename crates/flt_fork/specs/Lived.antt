-- What blocks leave of the main seat of a lock, and what the journal says of them once the lock is closed: stated of any machine.
use Rattle.std.specs.Prelude.{◌≡◌, ℕ, ◌+◌, ◌<◌, ◌≤◌, List, ◌∷◌, ◌++◌, All, Contains, length}
use mathlib.Core.List.{IsPrefix}
use Rattle.flt_turn.specs.declared.vault.Entry.{Entry}
use Rattle.flt_turn.specs.Journal.{calls_of}
use Rattle.flt_turn.specs.Seats.{Seated}
use Rattle.flt_fork.specs.Mixing.{Mixes, Block, HasInOrder, BlockTold, Rise, calls_in_lane}

-- A joined lane: its number was given out, and a joined seat knew all of its calls.
pub record IsEnded {S O : Type 0} (main : Seated S O) (lane : ℕ × List O) : Type 0 where
  pub some : 0 < lane.0
  pub given : lane.0 ≤ main.children
  pub known : List (Entry O)
  pub among : Contains main.olds known
  pub all : length lane.1 ≤ length (calls_of lane.0 known)

-- The main seat between two blocks: all that was split from it was joined, and all calls so far are known.
pub record IsMain {S O : Type 0} (main : Seated S O) : Type 0 where
  pub number_is : main.number ≡ 0
  pub own : length main.mine ≤ length (calls_of main.number main.seen)
  pub ended : All (IsEnded main) main.ended
  pub joined : length main.ended ≡ main.children

-- The lock could be closed now, and leave this journal.
pub record CouldClose {S O : Type 0} (main : Seated S O) (journal : List (Entry O)) : Type 0 where
  pub seen : IsPrefix main.seen journal
  pub olds : All (λ old. IsPrefix old journal) main.olds
  pub mixes : Mixes journal ((main.number, main.mine) ∷ main.ended)

-- After a journal that the lock could have left before these blocks, the journal has their calls, and each is answered there; and the
-- places that a lane is given rise.
pub record Trails {S O R : Type 0} (answer : S → List O → O → R) (main : Seated S O) (blocks : List (Block O R)) (journal : List (Entry O)) : Type 0 where
  pub before : List (Entry O)
  pub rest : List (Entry O)
  pub split : journal ≡ before ++ rest
  pub whole : CouldClose main before
  pub in_order : HasInOrder blocks rest
  pub told : All (BlockTold answer main.start journal) blocks
  pub rising : (number : ℕ) → Rise (length before) (calls_in_lane number blocks)

-- These blocks were carried out, on this many split seats.
pub record HasLived {S O R : Type 0} (answer : S → List O → O → R) (main after : Seated S O) (seats : ℕ) (blocks : List (Block O R)) : Type 0 where
  pub main_after : IsMain after
  pub start_is : after.start ≡ main.start
  pub lock_is : after.lock ≡ main.lock
  pub children_is : after.children ≡ main.children + seats
  pub trails : (journal : List (Entry O)) → CouldClose after journal → Trails answer main blocks journal
