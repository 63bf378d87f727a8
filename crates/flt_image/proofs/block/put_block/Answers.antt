use Rattle.std.proofs.Common.{subst, sym}
use Rattle.flt_image.specs.Taking.{HaveShortCounts}
use Rattle.flt_store_model.proofs.Parts.{states_short}
use Rattle.flt_image.proofs.block.put_block.Goals as goal

pub put_states-requires-clause-clean : goal.put_states-requires-clause-clean
put_states-requires-clause-clean c = subst HaveShortCounts (sym c.deref.ensures.0) (states_short c.args.config.now.events.items c.args.state.now.events.items c.requires.fits.states)
