use Rattle.std.proofs.Common.{sym, ◌∙◌}
use Rattle.flt_script.specs.Script.{content}
use Rattle.flt_watch.proofs.asking.ask.Goals as goal

pub returns-else-is_watchable : goal.returns-else-is_watchable
returns-else-is_watchable g c =
    let fetched = rw c.in-Script.is at c.fetch.ensures in
    (fetched.0, (content c.in-Script.script, fetched.1, sym c.is_watchable.ensures ∙ c.if-is_watchable.false))
