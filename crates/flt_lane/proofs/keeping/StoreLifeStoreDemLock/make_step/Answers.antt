use Rattle.flt_lane.proofs.StoreLanes.{store_takes}
use Rattle.flt_lane.proofs.keeping.StoreLifeStoreDemLock.make_step.Goals as goal

pub returns-clause-takes : goal.returns-clause-takes
returns-clause-takes g c =
    store_takes c.args.common.now.config.now c.args.seats.now c.do_step.new.seats c.args.step.now c.args.replies.now c.do_step.new.replies c.args.self.now c.do_step.new.store c.do_step.ensures.takes
