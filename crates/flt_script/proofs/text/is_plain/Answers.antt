use Rattle.std.proofs.Common.{sym}
use Rattle.flt_script.proofs.Lines.{visible_all}
use Rattle.flt_script.proofs.text.is_plain.Goals as goal

pub returns-in-None : goal.returns-in-None
returns-in-None c = sym (visible_all c.args.line.now (sym c.in-None.ensures))
