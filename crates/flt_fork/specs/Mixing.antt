-- How the journal of a lock has the calls of blocks of lanes, one block after the other, and how each call is answered there:
-- stated for the journal of any machine.
use Rattle.std.specs.Prelude.{◌≡◌, ℕ, ◌+◌, ◌≤◌, ◌==◌, if◌then◌else◌, List, [], ◌∷◌, ◌++◌, All, Contains, map, slice_get, Some}
use Rattle.flt_turn.specs.declared.answer.Answer.{Answer}
use Rattle.flt_turn.specs.declared.vault.Entry.{Entry}
use Rattle.flt_turn.specs.Journal.{entry, calls_of}
use Rattle.flt_turn.specs.Seats.{ops_before}

-- A call, and its answer.
pub record Call (O R : Type 0) : Type 0 where
  pub op : O
  pub told : Answer R

-- What was asked.
abbrev pub ops_asked : {O R : Type 0} → List (Call O R) → List O
ops_asked calls = map (λ call. call.op) calls

-- A journal has the calls of these lanes, those of each in its order, and no others.
pub record Mixes {O : Type 0} (journal : List (Entry O)) (lanes : List (ℕ × List O)) : Type 0 where
  pub each : All (λ lane. calls_of lane.0 journal ≡ lane.1) lanes
  pub others : (number : ℕ) → ¬ Contains (map (λ lane. lane.0) lanes) number → calls_of number journal ≡ []

-- The lanes of a block by their numbers, each with the calls that it made. A step outside blocks is a block of lane 0.
abbrev pub Block : Type 0 → Type 0 → Type 0
Block O R = List (ℕ × List (Call O R))

-- What each lane asked.
abbrev pub asked_of : {O R : Type 0} → Block O R → List (ℕ × List O)
asked_of lanes = map (λ lane. (lane.0, ops_asked lane.1)) lanes

-- The journal has the calls of these blocks: those of each block together, after those of the blocks before it.
unfoldable pub HasInOrder : {O R : Type 0} → List (Block O R) → List (Entry O) → Type 0
HasInOrder [] journal = journal ≡ []
HasInOrder {O} {R} (lanes ∷ blocks) journal = (block : List (Entry O)) × (rest : List (Entry O)) × (journal ≡ block ++ rest)
    × Mixes block (asked_of lanes) × HasInOrder blocks rest

-- A call of this lane is at the place that its answer gives, and is answered after the calls before that place.
pub record IsToldInPlace {S O R : Type 0} (answer : S → List O → O → R) (start : S) (journal : List (Entry O)) (lane : ℕ) (call : Call O R) : Type 0 where
  pub stands : slice_get journal call.told.place ≡ Some (entry lane call.op)
  pub reply : call.told.reply ≡ answer start (ops_before call.told.place journal) call.op

-- So is each call of each lane of a block.
abbrev pub BlockTold : {S O R : Type 0} → (S → List O → O → R) → S → List (Entry O) → Block O R → Type 0
BlockTold answer start journal lanes = All (λ lane. All (IsToldInPlace answer start journal lane.0) lane.1) lanes

-- The places of these calls rise, from this one on.
unfoldable pub Rise : {O R : Type 0} → ℕ → List (Call O R) → Type 0
Rise low [] = Unit {0}
Rise low (call ∷ calls) = (low ≤ call.told.place) × Rise (call.told.place + 1) calls

-- The calls of the lane of this number in a block, and in all blocks, those of each block after those of the blocks before it.
abbrev pub calls_in_block : {O R : Type 0} → ℕ → Block O R → List (Call O R)
calls_in_block number [] = []
calls_in_block number (lane ∷ lanes) = (if lane.0 == number then lane.1 else []) ++ calls_in_block number lanes

abbrev pub calls_in_lane : {O R : Type 0} → ℕ → List (Block O R) → List (Call O R)
calls_in_lane number [] = []
calls_in_lane number (lanes ∷ blocks) = calls_in_block number lanes ++ calls_in_lane number blocks
