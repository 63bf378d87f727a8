use denote.Exit
use denote.Param.Send.{sendable, param_sync, arg_sync}
use denote.Param.Table.{FnAny}
use denote.Param.Callables.{of_code}
use Rattle.flt_lane.specs.contracts.locks.LocksOf as locks
use Rattle.flt_shared.specs.contracts.lock.DemLock as dem_lock
use Rattle.flt_lane.proofs.Sharing.{dem_sync, locks_sync}
use Rattle.flt_lane.specs.contracts.lane.run_others.fn-1 as stored
use Rattle.flt_lane.proofs.lane.run_others.Lts as lts
use Rattle.flt_lane.proofs.lane.run_others.Goals as goal

pub work_beside-requires-sync-C : goal.work_beside-requires-sync-C
work_beside-requires-sync-C g c κs within =
    let F = FnAny (stored.sig g.row.R g.row.G) g.fn-1 in
    param_sync 1 (lts.arg-0-1 g.row.R g.row.G g.R.laws g.G.laws g.R.Threads g.R.Threads-dict g.R.Wait g.R.Wait-dict g.G.Gate g.G.Gate-dict g.fn-1 g.fn-1-has κs)
    (arg_sync _ Exit.no (locks.the_row (dem_lock.the_row F (of_code g.fn-1))) (locks_sync (dem_lock.the_row F (of_code g.fn-1)) (dem_sync F (of_code g.fn-1) (search sendable))))
