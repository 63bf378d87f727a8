use Rattle.flt_lane.specs.Views.{known_by}
use Rattle.flt_lane.proofs.Seating.{are_seated}
use Rattle.flt_lane.proofs.block.seat_lanes.Goals as goal

pub returns-clause-seated : goal.returns-clause-seated
returns-clause-seated g c =
    are_seated (known_by g.L.StatusLock.known c.args.locks.now) c.args.main.now c.args.room.lanes.items c.pass_all.new.main c.args.room.works.items c.pass_all.new.out.items c.requires.room.empty c.pass_all.ensures.passed
