use Rattle.flt_store_tests.proofs.tests.get.Goals as goal

pub returns-in_err-found : goal.returns-in_err-found
returns-in_err-found g c =
    let alive = c.requires in
    record { held = alive.held; spare = alive.spare; running = (c.get_block.ensures.running c.args.config.now alive.held alive.spare alive.running).running }

pub returns : goal.returns
returns g c =
    let alive = c.requires in
    record { held = alive.held; spare = alive.spare; running = (c.get_block.ensures.running c.args.config.now alive.held alive.spare alive.running).running }
