use Rattle.flt_nvm.proofs.Served.{size_in_range}
use Rattle.flt_nvm.specs.Driver.{driver_of, table_of}
use Rattle.flt_nvm.proofs.nvm.Nvm.repair.Goals as goal

pub write-requires-clause-most : goal.write-requires-clause-most
write-requires-clause-most g c = size_in_range (driver_of c.args.self.now).numbers (table_of c.args.self.now) c.args.id c.args.self.now.served _ c.requires.fits
