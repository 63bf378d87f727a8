use Rattle.std.proofs.Common.{get_or}
use denote.Exit
use denote.Param.Send.{sendable, param_sync, arg_sync}
use denote.Param.Table.{FnAny}
use denote.Param.Callables.{of_code}
use Rattle.flt_lane.specs.contracts.locks.LocksOf as locks
use Rattle.flt_watch.specs.contracts.lock.WatchLock as lock
use Rattle.flt_watch.proofs.OneLife.{off_store}
use Rattle.flt_watch.proofs.Sharing.{both_sync}
use Rattle.flt_watch.specs.contracts.keeping.run_beside.fn-1 as stored
use Rattle.flt_watch.specs.contracts.keeping.run_beside.fn-2 as told
use Rattle.flt_watch.proofs.keeping.run_beside.Lts as lts
use Rattle.flt_watch.proofs.keeping.run_beside.Goals as goal

pub work_beside-requires-sync-C : goal.work_beside-requires-sync-C
work_beside-requires-sync-C g c κs within =
    let F = FnAny (stored.sig g.row.R g.row.G) g.fn-1 in
    let G = FnAny (told.sig g.row.R g.row.G) g.fn-2 in
    param_sync 1 (lts.arg-0-1 g.row.R g.row.G g.R.laws g.G.laws g.R.Threads g.R.Threads-dict g.R.Wait g.R.Wait-dict g.G.Gate g.G.Gate-dict g.fn-1 g.fn-1-has g.fn-2 g.fn-2-has κs)
    (arg_sync _ Exit.no (locks.the_row (lock.the_row F G (of_code g.fn-1) (of_code g.fn-2))) (both_sync F G (of_code g.fn-1) (of_code g.fn-2) (search sendable) (search sendable)))

pub work_beside-requires-after_bounds : goal.work_beside-requires-after_bounds
work_beside-requires-after_bounds g c κs within = λ k lane inside. (c.requires.ready k lane inside, off_store (get_or c.args.lanes.now k lane).steps.now (c.requires.allowed k lane inside))
