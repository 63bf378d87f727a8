use Rattle.flt_script.proofs.PrintedSetting.{written_settings_are_read}
use Rattle.flt_script.proofs.laws.written_settings_are_read.Goals as goal

pub returns : goal.returns
returns c = written_settings_are_read
