use Rattle.std.proofs.Common.{append_assoc, rules}
use Rattle.flt_run.proofs.line.accepted_line.Goals as goal

pub returns : goal.returns
returns c =
    let extent = c.extent_of-extent.ensures in
    let told = rw (c.len-events.ensures.value, c.config-config.ensures.value, extent.needed, extent.pages, extent.steps, extent.lives) at c.format.ensures.ok in
    search (rules, append_assoc, told)
