use Rattle.std.proofs.Common.{append_assoc, rules}
use Rattle.flt_watch.proofs.telling.value_line.Goals as goal

pub returns : goal.returns
returns c = let told = c.format.ensures.ok in search (rules, append_assoc, told)
