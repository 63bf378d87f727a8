use Rattle.std.proofs.Common.{ℕ, List, subst, sym}
use Rattle.std.specs.Prelude.{Contains}
use Rattle.bench.proofs.blocks.write_in_turn.Goals as goal

pub write-requires-clause-number : goal.write-requires-clause-number
write-requires-clause-number g c = subst (λ (numbers : List ℕ). Contains numbers c.number_at.result) (sym c.loop-turn.invariant) c.number_at.ensures
