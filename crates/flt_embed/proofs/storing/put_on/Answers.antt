use Rattle.flt_embed.proofs.storing.put_on.Goals as goal

pub put_block-requires-clause-alive : goal.put_block-requires-clause-alive
put_block-requires-clause-alive c = (c.args.config.now, c.requires.block, c.requires.alive)
