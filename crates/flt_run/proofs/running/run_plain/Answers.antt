use Rattle.flt_run.proofs.Ends.{runs}
use Rattle.flt_run.proofs.running.run_plain.Goals as goal

pub returns : goal.returns
returns g c =
    rw c.tell.ensures.same
    (runs _ _ _ _ c.tell.result.status c.tell.result.lives.items c.perform_plain-ending.result.0 c.perform_plain-ending.ensures c.tell.ensures.told c.free_lock_holds_machine.ensures)
