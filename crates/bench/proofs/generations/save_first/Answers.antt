use Rattle.bench.proofs.generations.save_first.Goals as goal

pub save-requires-clause-alive : goal.save-requires-clause-alive
save-requires-clause-alive g c = record { held = _; spare = _; running = c.in-Ok.ensures.started.running }
