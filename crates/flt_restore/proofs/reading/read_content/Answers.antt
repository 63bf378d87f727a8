use Rattle.std.proofs.Common.{rules}
use Rattle.flt_nvm.specs.Driver.{driver_of, table_of}
use Rattle.flt_restore.proofs.Failing.{fails_single, if_err_of}
use Rattle.flt_restore.proofs.reading.read_content.Goals as goal

pub returns-in_err-got-clause-fails : goal.returns-in_err-got-clause-fails
returns-in_err-got-clause-fails g c =
    let unread = fails_single (table_of c.args.nvm.now) c.args.id c.args.index c.requires.readable.table c.requires.single (driver_of c.args.nvm.now) (driver_of c.read.new.self) c.requires.readable.mounted _ _
    c.read.result _ c.in_err-got.was c.read.ensures.reads c.read.ensures.jobs c.read.ensures.unread in
    if_err_of _ c.from_residual.result _ c.from_residual.ensures.1 (record { fault_is = search rules; unread = unread; flash = search rules })
