use Rattle.flt_store_tests.proofs.tests.arm.Goals as goal

pub returns-clause-alive : goal.returns-clause-alive
returns-clause-alive g c = λ config alive. record { held = alive.held; spare = alive.spare; running = c.arm.ensures.running config alive.held alive.spare alive.running }
