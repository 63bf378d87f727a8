-- Steps of a lane so far, on one lock.
use Rattle.std.proofs.Common.{◌≡◌, ℕ, ◌≤◌, ◌+◌, List, [], ◌∷◌, ◌++◌, arith, refl}
use Rattle.std.specs.Prelude.{sum_by}
use Rattle.std.proofs.lemmas.List.Sums.{sum_by_push}
use Rattle.flt_turn.specs.Seats.{Seated}
use Rattle.flt_fork.specs.Making.{AreMadeBy}
use Rattle.flt_fork.specs.Mixing.{Call}
use Rattle.flt_fork.proofs.Makings.{made_more}
use Rattle.flt_fork.specs.Chain.{Chain}
use Rattle.flt_fork.specs.Runs.{MakesBy, RunsBy}
use Rattle.flt_fork.proofs.Chains.{chain_fact, chain_more}

module _ {T A S O R : Type 0} (admits : S → O → Type 0) (answer : S → List O → O → R) (MadeBy : T → A → List (Call O R) → Type 0) (count : T → ℕ) where
  pub record PartBy (before now : Seated S O) (steps : List T) (told : List A) : Type 0 where
    pub calls : List (Call O R)
    pub made : AreMadeBy MadeBy steps told calls
    pub chain : Chain admits answer before calls now
    pub left : before.left ≤ now.left + sum_by count steps

  pub part_first : (seat : Seated S O) → PartBy seat seat [] []
  unfolding AreMadeBy Chain
  part_first seat = record { calls = []; made = refl; chain = refl; left = omega arith }

  pub part_more : (before now after : Seated S O) (steps : List T) (told : List A) (step : T) (one : A) → PartBy before now steps told → MakesBy admits answer MadeBy count now step one after
      → PartBy before after (steps ++ step ∷ []) (told ++ one ∷ [])
  part_more before now after steps told step one part makes = record {
    calls = part.calls ++ makes.calls;
    made = made_more MadeBy steps told part.calls step one makes.calls part.made makes.made;
    chain = chain_more admits answer before part.calls now makes.calls after part.chain makes.chain;
    left = let sum = sum_by_push count steps step in let left = makes.left in omega (arith, part.left, left, sum);
  }

  pub part_runs : (before now : Seated S O) (steps : List T) (told : List A) → PartBy before now steps told → RunsBy admits answer MadeBy count before steps told now
  part_runs before now steps told part = record {
    calls = part.calls;
    made = part.made;
    chain = part.chain;
    rising = (chain_fact admits answer before part.calls now part.chain).rising;
  }

  pub part_start : (before now : Seated S O) (steps : List T) (told : List A) → PartBy before now steps told → now.start ≡ before.start
  part_start before now steps told part = (chain_fact admits answer before part.calls now part.chain).start_is

  pub part_number : (before now : Seated S O) (steps : List T) (told : List A) → PartBy before now steps told → now.number ≡ before.number
  part_number before now steps told part = (chain_fact admits answer before part.calls now part.chain).number_is
