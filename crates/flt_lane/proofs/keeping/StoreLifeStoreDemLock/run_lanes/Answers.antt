use Rattle.flt_lane.proofs.StoreLanes.{have_run, store_carries}
use Rattle.flt_lane.proofs.keeping.StoreLifeStoreDemLock.run_lanes.Goals as goal

pub returns-clause-ran : goal.returns-clause-ran
returns-clause-ran g c = have_run c.args.common.now.config.now c.args.lanes.now c.run_lanes.new.lanes c.args.self.now c.run_lanes.new.store c.run_lanes.ensures.ran

pub returns-clause-carries : goal.returns-clause-carries
returns-clause-carries g c = store_carries c.args.common.now.config.now c.args.lanes.now c.run_lanes.new.lanes c.args.self.now c.run_lanes.new.store c.run_lanes.ensures.ran
