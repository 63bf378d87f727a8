use Rattle.std.proofs.Common.{arith}
use Rattle.flt_ea.proofs.ea.EaBlocks.mount.Goals as goal

pub returns-clause-costs : goal.returns-clause-costs
returns-clause-costs g c = omega (arith, c.look.ensures.operations)
