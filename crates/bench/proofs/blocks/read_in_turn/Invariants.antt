use Rattle.std.proofs.Common.{◌≡◌}
use Rattle.bench.proofs.blocks.read_in_turn.Given as goal

abbrev pub invariant-loop-turn : goal.invariant-loop-turn
invariant-loop-turn g l = (g.B.Blocks.state l.driver).numbers ≡ l.numbers
