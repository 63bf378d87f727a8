use Rattle.std.proofs.Common.{◌∙◌}
use Rattle.std.proofs.lemmas.Result.{on_ok_weaker}
use Rattle.flt_file.proofs.Paging.{units_unit}
use Rattle.flt_file.proofs.eeprom.EepromFileEeprom.read_unit.Goals as goal

pub returns-clause-read : goal.returns-clause-read
returns-clause-read g c = on_ok_weaker c.read.result (λ is. is ∙ units_unit c.args.self.now.units _ c.args.unit c.requires) c.read.ensures.read
