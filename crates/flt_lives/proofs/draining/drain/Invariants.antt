use Rattle.std.proofs.Common.{◌≡◌, ◌≤◌, ◌+◌}
use Rattle.flt_store_model.specs.Holding.{Generation}
use Rattle.flt_queue.specs.Queue.{History}
use Rattle.flt_queue.specs.Stands.{QueueStands}
use Rattle.flt_flash.specs.Calls.{Follows}
use Rattle.flt_store.specs.Store.{IsRunning, driver_of}
use Rattle.flt_lives.specs.Draining.{IsDraining}
use Rattle.flt_lives.proofs.draining.drain.Given as goal

abbrev pub invariant-loop-job : goal.invariant-loop-job
invariant-loop-job g l = record {
  blocks : l.queue.blocks ≡ l.initial.queue.blocks;
  running : (held spare : Generation) → IsRunning l.config held spare l.initial.store → IsRunning l.config held spare l.store;
  few : l.written + l.failed ≤ l._job;
  keeps_driver : Follows (driver_of l.initial.store) (driver_of l.store);
  draining : (jobs : History) → QueueStands l.config.blocks jobs l.initial.queue → IsDraining l.config jobs l._job l.written l.failed l.queue l.initial.store l.store;
}
