use Rattle.flt_lane.specs.Views.{known_by}
use Rattle.flt_lane.proofs.Seating.{seats_on}
use Rattle.flt_lane.proofs.block.LocksOfPassingSeatsOfSeatMachineLaneRoomLaneOfSeatMachine.pass.Goals as goal

pub returns-clause-later : goal.returns-clause-later
returns-clause-later g c = λ later can. seats_on (known_by g.L.StatusLock.known c.args.self.now) c.args.main.now c.args.lane later can c.split_lane.new.main c.split_lane.result c.split_lane.ensures.seated
