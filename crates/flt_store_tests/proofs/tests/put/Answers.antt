use Rattle.std.proofs.Common.{◌<◌, rules}
use Rattle.flt_store_tests.proofs.tests.put.Goals as goal

pub returns-clause-alive : goal.returns-clause-alive
returns-clause-alive g c =
    let alive = c.requires in
    let within : 0 < c.args.config.now.blocks = search rules in
    record { held = alive.held; spare = alive.spare; running = (c.put_block.ensures.running c.args.config.now within alive.held alive.spare alive.running).running }
