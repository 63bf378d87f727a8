use Rattle.flt_lane.specs.Views.{known_by}
use Rattle.flt_lane.proofs.Seating.{joins_later}
use Rattle.flt_lane.proofs.block.LocksOfPassingSeatsOfSeatMachineLaneOfSeatMachineLaneReplies.pass.Goals as goal

pub returns-clause-later : goal.returns-clause-later
returns-clause-later g c = λ later. joins_later (known_by g.L.StatusLock.known c.args.self.now) c.args.main.now c.args.lane later c.join_lane.new.main c.join_lane.result c.join_lane.ensures.joined
