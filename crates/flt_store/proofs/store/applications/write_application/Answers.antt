use Rattle.std.proofs.Common.{arith}
use Rattle.flt_nvm.specs.Driver.{driver_of}
use Rattle.flt_store.proofs.TableUse.{application_index, application_fits, application_alone}
use Rattle.flt_store.proofs.Causes.{one_write}
use Rattle.flt_store.proofs.store.applications.write_application.Goals as goal

pub write-requires-clause-index : goal.write-requires-clause-index
write-requires-clause-index g c = application_index _ c.requires.table _ c.get.ensures.below

pub write-requires-clause-fits : goal.write-requires-clause-fits
write-requires-clause-fits g c = application_fits _ c.requires.table _ c.get.ensures.below _ c.requires.can.most

pub returns-clause-gives : goal.returns-clause-gives
returns-clause-gives g c = rw (← c.get.ensures.number) (application_alone _ c.requires.table _ c.get.ensures.below _ _ c.write.ensures.gives)

pub returns-clause-writes : goal.returns-clause-writes
returns-clause-writes g c =
    let most = c.requires.can.most in
    one_write (driver_of c.args.nvm.now) (driver_of c.write.new.self) c.write.result c.write.ensures.calls c.write.ensures.three _ _ _ (omega (arith, most))
    (application_alone _ c.requires.table _ c.get.ensures.below _ _ c.write.ensures.gives)
