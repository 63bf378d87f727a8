use Rattle.std.proofs.Common.{sym, subst}
use Rattle.flt_config.specs.Durable.{Fits}
use Rattle.flt_dcm.specs.Whole.{config_of, unit_seen}
use Rattle.flt_life_model.specs.Chain.{start_from}
use Rattle.flt_model.proofs.SavedFits.{saved_states_fit}
use Rattle.flt_lives.proofs.step.take_snapshot.Goals as goal

pub returns-clause-fits : goal.returns-clause-fits
returns-clause-fits g c =
    let life = start_from (config_of c.args.unit.now) (unit_seen c.args.unit.now).base in
    let way = c.requires.under_way in
    subst (Fits (config_of c.args.unit.now)) (sym (c.persist.ensures.saved life way.past way.stands)) (saved_states_fit life way.past way.valid way.fits)
