use Rattle.flt_lane.proofs.Seating.{have_joined}
use Rattle.flt_lane.proofs.block.join_lanes.Goals as goal

pub returns-clause-joined : goal.returns-clause-joined
returns-clause-joined g c = have_joined c.args.main.now c.args.works.items c.pass_all.new.main c.args.told.now.items c.pass_all.new.out.items c.pass_all.ensures.passed
