use Rattle.flt_dcm.specs.Whole.{config_of, unit_seen}
use Rattle.flt_life_model.specs.Chain.{start_from}
use Rattle.flt_lives.proofs.Rooms.{no_response}
use Rattle.flt_lives.proofs.step.call.Goals as goal

pub returns-clause-no_response : goal.returns-clause-no_response
returns-clause-no_response g c = λ other.
    let life = start_from (config_of c.args.unit.now) (unit_seen c.args.unit.now).base in
    let way = c.requires.under_way in
    no_response life way.past c.args.op.now _ _ (c.apply_into.ensures.applied.answer life way.past way.stands) other
