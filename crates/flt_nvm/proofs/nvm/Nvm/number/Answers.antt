use Rattle.std.proofs.Common.{arith}
use Rattle.flt_nvm.proofs.Served.{given}
use Rattle.flt_nvm.specs.Driver.{driver_of, table_of}
use Rattle.flt_nvm.proofs.nvm.Nvm.number.Goals as goal

pub overflow_mul-result : goal.overflow_mul-result
overflow_mul-result g c =
    let is = given (driver_of c.args.self.now).numbers (table_of c.args.self.now) c.args.id c.args.self.now.served c.args.place c.requires in
    omega (arith, is.id_is)

pub overflow_add-result : goal.overflow_add-result
overflow_add-result g c =
    let is = given (driver_of c.args.self.now).numbers (table_of c.args.self.now) c.args.id c.args.self.now.served c.args.place c.requires in
    omega (arith, is.id_is, is.place_is)

pub returns-clause-of_driver : goal.returns-clause-of_driver
returns-clause-of_driver g c =
    (given (driver_of c.args.self.now).numbers (table_of c.args.self.now) c.args.id c.args.self.now.served c.args.place c.requires).number
