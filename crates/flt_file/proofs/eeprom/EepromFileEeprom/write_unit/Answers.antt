use Rattle.std.proofs.Common.{◌∙◌, ap}
use Rattle.std.proofs.lemmas.Result.{on_ok_weaker, on_err_weaker}
use Rattle.flt_file.specs.Layout.{units_in}
use Rattle.flt_file.proofs.Paging.{units_written, torn_units}
use Rattle.flt_file.proofs.eeprom.EepromFileEeprom.write_unit.Goals as goal

pub returns-clause-written : goal.returns-clause-written
returns-clause-written g c =
    let units = c.args.self.now.units in
    on_ok_weaker c.write.result (λ is. ap (units_in units) is ∙ units_written units _ c.args.self.now.size c.args.unit c.args.bytes.now c.requires c.told-bytes)
    c.write.ensures.written

pub returns-clause-torn : goal.returns-clause-torn
returns-clause-torn g c =
    let units = c.args.self.now.units in
    on_err_weaker c.write.result (λ torn. torn_units torn units c.args.self.now.size
    (units_written units _ c.args.self.now.size c.args.unit c.args.bytes.now c.requires c.told-bytes)) c.write.ensures.torn
