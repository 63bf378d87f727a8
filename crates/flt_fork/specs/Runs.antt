-- What the steps of a lane do on a lock: each makes its calls, each call at its own place of the journal, and is answered by them.
-- A machine is given by what it admits and answers, by the calls that a step makes of it, and by how many they are at most.
use Rattle.std.specs.Prelude.{ℕ, ◌+◌, ◌≤◌, List, [], ◌∷◌, length}
use Rattle.flt_turn.specs.Seats.{Seated}
use Rattle.flt_fork.specs.Chain.{Chain}
use Rattle.flt_fork.specs.Lived.{HasLived}
use Rattle.flt_fork.specs.Making.{AreMadeBy, LanesMake}
use Rattle.flt_fork.specs.Mixing.{Call, Block, Rise}

module _ {T A S O R : Type 0} (admits : S → O → Type 0) (answer : S → List O → O → R) (MadeBy : T → A → List (Call O R) → Type 0) (count : T → ℕ) where
  -- One step, and what it leaves of its seat.
  pub record MakesBy (before : Seated S O) (step : T) (told : A) (after : Seated S O) : Type 0 where
    pub calls : List (Call O R)
    pub made : MadeBy step told calls
    pub chain : Chain admits answer before calls after
    pub left : before.left ≤ after.left + count step

  -- Steps in their order, each with its answer.
  pub record RunsBy (before : Seated S O) (steps : List T) (answers : List A) (after : Seated S O) : Type 0 where
    pub calls : List (Call O R)
    pub made : AreMadeBy MadeBy steps answers calls
    pub chain : Chain admits answer before calls after
    pub rising : Rise (length before.seen) calls

module _ {T A S O R : Type 0} (answer : S → List O → O → R) (MadeBy : T → A → List (Call O R) → Type 0) where
  -- The lanes of a block were run, and were answered so.
  pub record HasRunBlock (main after : Seated S O) (lanes : List (List T)) (told : List (List A)) : Type 0 where
    pub made : Block O R
    pub makes : LanesMake MadeBy (main.children + 1) lanes told made
    pub lived : HasLived answer main after (length lanes) (made ∷ [])
