use Rattle.std.proofs.Common.{ℕ, List, subst, sym}
use Rattle.std.specs.Prelude.{Contains}
use Rattle.bench.proofs.blocks.read_in_turn.Goals as goal

pub read-requires : goal.read-requires
read-requires g c = subst (λ (numbers : List ℕ). Contains numbers c.number_at.result) (sym c.loop-turn.invariant) c.number_at.ensures
